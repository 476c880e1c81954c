-- What was accepted before 2026-04 is accepted now, with the same columns and every job in window 0, and so with the same plan. What is accepted now was accepted then, if its
-- layouts stand first and its lines have no window.
use Prim.Native.Nat.{ℕ, suc, ◌+◌, ◌<◌}
use Rattle.std.proofs.Math.Path.{◌≡◌, refl, sym, ap, subst}
use Rattle.std.proofs.Common.{◌∙◌, ⊎_elim, true≢false, arith, length-append}
use Rattle.std.specs.Prelude.{Bool, not, ◌||◌, ◌&&◌, get_or, leb}
use Rattle.std.proofs.Math.Bool.{true, false}
use Rattle.std.proofs.lemmas.Bool.{false≢true}
use Rattle.std.proofs.Math.Option.{Option, none, some}
use mathlib.Core.List.{List, [], ◌∷◌, ◌++◌, map, foldr, flat_map}
use Rattle.std.proofs.Math.ListN.{length, replicate, get_or-append}
use Rattle.std.proofs.lemmas.List.{length-replicate, replicate-append-replicate}
use Rattle.std.proofs.Math.Seq.{get_or_at}
use Rattle.std.proofs.Math.Dec.{eqb, ltb}
use borrow.Author.Tests.{ltb-false, ne_eqb, not-true}
use Rattle.model.specs.Lists.{numbers, numbers_from, elem, any_of, all_of}
use Rattle.model.specs.Verdict.{Verdict, accepted, refuse_if, ◌then◌}
use Rattle.model.specs.Tree.{layout_limit, right_parent, ascend, ancestors, ancestor_or_self}
use Rattle.model.specs.Jobs.{Table, table_of, jobs, job_limit, window_limit, top, bottom, window, job_verdict}
use Rattle.model.specs.Planning.{jobs_verdict}
use Rattle.model.specs.Table.{is_digit, digit_value, number_after, lead, Line, lines, Frame, layout_frame, job_frame, solo_frame, window_frame, end_frame, frame_of_kind, frame_of, on_its_line, is_end, beyond_windows, end_without_layout, content_verdict, frame_verdict, with_job, extended, with_own_line, Reading, read, unless_refused, read_frame, read_lines, empty_table, read_table}
use Rattle.model.specs.Output.{digit, hex, line, reading_bytes, run_bytes}
use Rattle.laws.specs.Booleans.{or_cases, or_false_both}
use Rattle.laws.specs.Numbers.{range_more, range_agree}
use Rattle.laws.specs.Verdicts.{placed_accepted, then_accepted, then_append, then_last, not_refused, accepted_reading}
use Rattle.as_before.specs.OldTables.{is_layout, layouts_first, has_window}
use Rattle.as_before.specs.LayoutsFirst as Former

-- ---- there are such tables

-- the line of a frame
spelled : Frame → List ℕ
spelled (layout_frame p) = line (hex 2 1 ++ hex 4 p)
spelled (job_frame t b) = line (hex 2 2 ++ (hex 4 t ++ hex 4 b))
spelled (solo_frame t b) = line (hex 2 4 ++ (hex 4 t ++ hex 4 b))
spelled (window_frame t b v) = line (hex 2 5 ++ (hex 4 t ++ (hex 4 b ++ hex 2 v)))
spelled (end_frame n m) = line (hex 2 3 ++ (hex 4 n ++ hex 4 m))

-- the bakehouse table with a solo job more
bakehouse_and_solo : List ℕ
bakehouse_and_solo =
    flat_map spelled
    (layout_frame 0xFFFF ∷ layout_frame 0 ∷ layout_frame 0 ∷ layout_frame 1
    ∷ job_frame 0 3 ∷ job_frame 1 3 ∷ job_frame 2 2 ∷ job_frame 0 2 ∷ job_frame 3 3 ∷ solo_frame 1 3
    ∷ end_frame 4 6 ∷ [])

-- its layouts stand first, no line has a window, and it was accepted
some_was_read :
    (layouts_first (map frame_of (lines bakehouse_and_solo)) ≡ true)
    × (any_of has_window (map frame_of (lines bakehouse_and_solo)) ≡ false)
    × (Former.read_table bakehouse_and_solo ≡ read (table_of (0xFFFF ∷ 0 ∷ 0 ∷ 1 ∷ []) (0 ∷ 1 ∷ 2 ∷ 0 ∷ 3 ∷ 1 ∷ []) (3 ∷ 3 ∷ 2 ∷ 2 ∷ 3 ∷ 3 ∷ []) (0 ∷ 0 ∷ 0 ∷ 0 ∷ 0 ∷ 1 ∷ []) (0 ∷ 0 ∷ 0 ∷ 0 ∷ 0 ∷ 0 ∷ [])))
unfolding bakehouse_and_solo flat_map spelled hex digit is_layout layouts_first has_window any_of Former.read_table Former.read_lines Former.read_frame Former.frame_verdict Former.new_job_verdict lines lead frame_of frame_of_kind is_digit digit_value number_after all_of is_end extended unless_refused right_parent job_verdict ascend ancestors ancestor_or_self elem
some_was_read = (refl, refl, refl)

-- ---- one job more

-- each job so far has a bottom and is in window 0
record Plain (tb : Table) : Type 0 where
  even : length tb.bottoms ≡ jobs tb
  zeros : tb.windows ≡ replicate (jobs tb) 0

module _ (tb : Table) (t b mark : ℕ) (plain : Plain tb) where
  windows_even : length tb.windows ≡ jobs tb
  windows_even = ap length plain.zeros ∙ length-replicate (jobs tb) 0

  plain_more : Plain (with_job tb t b mark 0)
  plain_more =
      record {
        even = rw (length-append tb.bottoms (b ∷ []), length-append tb.tops (t ∷ []), plain.even) refl;
        zeros = ap (λ (l : List ℕ). l ++ 0 ∷ []) plain.zeros ∙ replicate-append-replicate (jobs tb) 1 0 ∙ ap (λ (n : ℕ). replicate n 0) (sym (length-append tb.tops (t ∷ [])));
      }

  job_same : (j : ℕ) → j < jobs tb
      → job_verdict tb.parents (get_or (tb.tops ++ t ∷ []) j 0) (get_or (tb.bottoms ++ b ∷ []) j 0) (get_or (tb.windows ++ 0 ∷ []) j 0) j ≡ job_verdict tb.parents (top tb j) (bottom tb j) (window tb j) j
  job_same j h =
      rw (get_or-append tb.tops (t ∷ []) 0 j h, get_or-append tb.bottoms (b ∷ []) 0 j (omega (arith, plain.even)), get_or-append tb.windows (0 ∷ []) 0 j (omega (arith, windows_even))) refl

  -- the checks of the table with one job more end with the check of that job
  jobs_more : jobs_verdict (with_job tb t b mark 0) ≡ (jobs_verdict tb then job_verdict tb.parents t b 0 (jobs tb))
  unfolding jobs_verdict numbers
  jobs_more =
      let new : Table = with_job tb t b mark 0 in
      let check : ℕ → Verdict = λ (j : ℕ). job_verdict tb.parents (top new j) (bottom new j) (window new j) j in
      let longer : length (tb.tops ++ t ∷ []) ≡ suc (jobs tb) = rw (length-append tb.tops (t ∷ [])) (omega arith) in
      ap (λ (n : ℕ). foldr ◌then◌ accepted (map check (numbers_from 0 n))) longer
      ∙ ap (foldr ◌then◌ accepted) (range_more check 0 (jobs tb))
      ∙ then_append (map check (numbers_from 0 (jobs tb))) (check (0 + jobs tb) ∷ [])
      ∙ rw (range_agree check (λ (j : ℕ). job_verdict tb.parents (top tb j) (bottom tb j) (window tb j) j) 0 (jobs tb) (λ j l h. job_same j (omega arith)), then_last (check (0 + jobs tb))) (last_job (0 + jobs tb) (omega arith))
    where
      last_job : (n : ℕ) → n ≡ jobs tb → (jobs_verdict tb then job_verdict tb.parents (get_or (tb.tops ++ t ∷ []) n 0) (get_or (tb.bottoms ++ b ∷ []) n 0) (get_or (tb.windows ++ 0 ∷ []) n 0) n) ≡ (jobs_verdict tb then job_verdict tb.parents t b 0 (jobs tb))
      last_job n e = rw (get_or_at tb.tops t [] 0 n (sym e), get_or_at tb.bottoms b [] 0 n (plain.even ∙ sym e), get_or_at tb.windows 0 [] 0 n (windows_even ∙ sym e), e) refl

-- a job that is right at one place is right at any
elsewhere : (ps : List ℕ) (t b v line j : ℕ) → job_verdict ps t b v line ≡ accepted → job_verdict ps t b v j ≡ accepted
unfolding job_verdict
elsewhere ps t b v line j e = go (leb (length ps) t || leb (length ps) b) (not (ancestor_or_self ps t b)) (leb window_limit v) e
  where
    go : (x y z : Bool) → (refuse_if x 5 line then refuse_if y 6 line then refuse_if z 9 line) ≡ accepted → (refuse_if x 5 j then refuse_if y 6 j then refuse_if z 9 j) ≡ accepted
    go true y z q = let apart : ◌≡◌ {A = ℕ} 0 1 = cc in absurd (omega arith)
    go false true z q = let apart : ◌≡◌ {A = ℕ} 0 1 = cc in absurd (omega arith)
    go false false true q = let apart : ◌≡◌ {A = ℕ} 0 1 = cc in absurd (omega arith)
    go false false false q = refl

no_jobs : (tb : Table) → jobs tb ≡ 0 → jobs_verdict tb ≡ accepted
unfolding jobs_verdict numbers numbers_from
no_jobs tb e = rw e refl

-- ---- a frame

-- the jobs so far are plain, and all are right
record Right (tb : Table) : Type 0 where
  plain : Plain tb
  right : jobs_verdict tb ≡ accepted

one_more : (tb : Table) (t b mark line : ℕ) → Right tb → job_verdict tb.parents t b 0 line ≡ accepted → Right (with_job tb t b mark 0)
one_more tb t b mark line r e =
    record {
      plain = plain_more tb t b mark r.plain;
      right = jobs_more tb t b mark r.plain ∙ rw r.right (elsewhere tb.parents t b 0 line (jobs tb) e);
    }

-- what was accepted is accepted, and the jobs are still right
module _ (line : ℕ) (tb : Table) (own : List ℕ) (ended : Bool) (r : Right tb) where
  record Kept (f : Frame) : Type 0 where
    accepts : frame_verdict line tb own ended f ≡ accepted
    after : Right (extended tb f)

  job_kept : (t b mark : ℕ) → Former.new_job_verdict line tb ended t b ≡ accepted
      → ((refuse_if (ended || false) 2 line then refuse_if (leb job_limit (jobs tb)) 3 line) ≡ accepted) × Right (with_job tb t b mark 0)
  unfolding Former.new_job_verdict
  job_kept t b mark e =
      let early = eqb (length tb.parents) 0 in
      let first = then_accepted (refuse_if (ended || early) 2 line) (refuse_if (leb job_limit (jobs tb)) 3 line then job_verdict tb.parents t b 0 line) e in
      let second = then_accepted (refuse_if (leb job_limit (jobs tb)) 3 line) (job_verdict tb.parents t b 0 line) first.1 in
      let open-yet : ended ≡ false = (or_false_both ended early (not_refused (ended || early) 2 line first.0)).0 in
      (rw open-yet second.0, one_more tb t b mark line r second.1)

  frame_kept : (f : Frame) → Former.frame_verdict line tb ended f ≡ accepted → Kept f
  unfolding Former.frame_verdict frame_verdict beyond_windows end_without_layout is_end content_verdict extended on_its_line
  frame_kept (layout_frame p) e =
      let content = refuse_if (leb layout_limit (length tb.parents)) 3 line then refuse_if (not (right_parent (length tb.parents) p)) 4 line in
      let both = then_accepted (refuse_if (ended || ltb 0 (jobs tb)) 2 line) content e in
      let grounds = or_false_both ended (ltb 0 (jobs tb)) (not_refused (ended || ltb 0 (jobs tb)) 2 line both.0) in
      record {
        accepts = rw grounds.0 both.1;
        after = record { plain = record { even = r.plain.even; zeros = r.plain.zeros }; right = no_jobs (extended tb (layout_frame p)) (omega (arith, ltb-false 0 (jobs tb) grounds.1)) };
      }
  frame_kept (job_frame t b) e = let kept = job_kept t b 0 e in record { accepts = kept.0; after = kept.1 }
  frame_kept (solo_frame t b) e = let kept = job_kept t b 1 e in record { accepts = kept.0; after = kept.1 }
  frame_kept (window_frame t b v) e = let apart : ◌≡◌ {A = ℕ} 0 1 = cc in absurd (omega arith)
  frame_kept (end_frame n m) e = record { accepts = rw (r.right, then_last (refuse_if (not (eqb n (length tb.parents) && eqb m (jobs tb))) 7 line)) e; after = r }

-- ---- all lines

-- the reading gives tb, whose jobs are all in window 0
abbrev Gives : Reading → Table → Type 0
Gives reading tb = (reading ≡ read tb) × (tb.windows ≡ replicate (jobs tb) 0)

module _ (tb' : Table) where
  frames_kept : (before : Table → Bool → Reading) (later : Table → List ℕ → Bool → Reading) → ((tb : Table) (own : List ℕ) (ended : Bool) → Right tb → before tb ended ≡ read tb' → Gives (later tb own ended) tb')
      → (line : ℕ) (tb : Table) (own : List ℕ) (ended : Bool) (o : Option Frame) → Right tb → Former.read_frame before line tb ended o ≡ read tb' → Gives (read_frame later line tb own ended o) tb'
  unfolding Former.read_frame read_frame unless_refused
  frames_kept before later ih line tb own ended none r e = let apart : ◌≡◌ {A = ℕ} 0 1 = cc in absurd (omega arith)
  frames_kept before later ih line tb own ended (some f) r e =
      let both = accepted_reading (Former.frame_verdict line tb ended f) (before (extended tb f) (is_end f)) tb' e in
      let kept = frame_kept line tb own ended r f both.0 in
      rw kept.accepts (ih (extended tb f) (with_own_line own line f) (is_end f) kept.after both.1)

  lines_kept : (ls : List Line) (line : ℕ) (tb : Table) (own : List ℕ) (ended : Bool) → Right tb → Former.read_lines ls line tb ended ≡ read tb' → Gives (read_lines ls line tb own ended) tb'
  unfolding Former.read_lines read_lines
  lines_kept [] line tb own true r e = let same : tb ≡ tb' = cc in (e, subst (λ (x : Table). x.windows ≡ replicate (jobs x) 0) same r.plain.zeros)
  lines_kept [] line tb own false r e = let apart : ◌≡◌ {A = ℕ} 0 1 = cc in absurd (omega arith)
  lines_kept (l ∷ ls) line tb own ended r e = frames_kept (Former.read_lines ls (suc line)) (read_lines ls (suc line)) (lines_kept ls (suc line)) line tb own ended (frame_of l) r e

-- ---- the laws

module _ (bytes : List ℕ) (tb : Table) (was : Former.read_table bytes ≡ read tb) where
  kept : Gives (read_table bytes) tb
  unfolding Former.read_table read_table
  kept = lines_kept tb (lines bytes) 1 empty_table [] false (record { plain = record { even = refl; zeros = refl }; right = no_jobs empty_table refl }) was

  -- accepted now, with the same columns
  pub read_as_before : read_table bytes ≡ read tb
  read_as_before = kept.0

  -- every job is in window 0
  pub windows_as_before : tb.windows ≡ replicate (jobs tb) 0
  windows_as_before = kept.1

  -- and the same plan is printed
  pub printed_as_before : run_bytes bytes ≡ Former.run_bytes bytes
  unfolding Former.run_bytes run_bytes
  printed_as_before = ap reading_bytes (read_as_before ∙ sym was)

-- ---- and back

-- a table so far and the lines to come: no job yet, and layouts first to come; or some layout, and no layout to come
data Within (tb : Table) (os : List (Option Frame)) : Type 0 where
  ahead : Plain tb → jobs tb ≡ 0 → layouts_first os ≡ true → Within tb os
  behind : Plain tb → eqb (length tb.parents) 0 ≡ false → any_of is_layout os ≡ false → Within tb os

layout_more : (tb : Table) (p : ℕ) (os : List (Option Frame)) → Plain tb → jobs tb ≡ 0 → (layouts_first os || not (any_of is_layout os)) ≡ true → Within (extended tb (layout_frame p)) os
unfolding extended
layout_more tb p os plain z first =
    let longer = ne_eqb (length (tb.parents ++ p ∷ [])) 0 (λ q. omega (arith, length-append tb.parents (p ∷ []))) in
    let same : Plain (extended tb (layout_frame p)) = record { even = plain.even; zeros = plain.zeros } in
    ⊎_elim (ahead same z) (λ last. behind same longer (not-true (any_of is_layout os) last)) (or_cases (layouts_first os) (not (any_of is_layout os)) first)

never : {A : Type 0} → false ≡ true → A
never q = absurd (false≢true q)

module _ (line : ℕ) (tb : Table) (own : List ℕ) (ended : Bool) (os : List (Option Frame)) where
  -- what is accepted was accepted, if the jobs with it are right; and an end has judged them
  record Was (f : Frame) : Type 0 where
    after : Within (extended tb f) os
    judged : is_end f ≡ true → jobs_verdict (extended tb f) ≡ accepted
    accepts : jobs_verdict (extended tb f) ≡ accepted → (jobs_verdict tb ≡ accepted) × (Former.frame_verdict line tb ended f ≡ accepted)

  job_was : (t b mark : ℕ) → Plain tb → eqb (length tb.parents) 0 ≡ false → (refuse_if (ended || false) 2 line then refuse_if (leb job_limit (jobs tb)) 3 line) ≡ accepted → jobs_verdict (with_job tb t b mark 0) ≡ accepted
      → (jobs_verdict tb ≡ accepted) × (Former.new_job_verdict line tb ended t b ≡ accepted)
  unfolding Former.new_job_verdict
  job_was t b mark plain some_layout e right =
      let both = then_accepted (jobs_verdict tb) (job_verdict tb.parents t b 0 (jobs tb)) (sym (jobs_more tb t b mark plain) ∙ right) in
      (both.0, rw (some_layout, elsewhere tb.parents t b 0 (jobs tb) line both.1, then_last (refuse_if (leb job_limit (jobs tb)) 3 line)) e)

  frame_was : (f : Frame) → Within tb (some f ∷ os) → has_window (some f) ≡ false → frame_verdict line tb own ended f ≡ accepted → Was f
  unfolding Former.frame_verdict frame_verdict beyond_windows end_without_layout is_end content_verdict extended on_its_line is_layout layouts_first has_window any_of
  frame_was (layout_frame p) (ahead plain z first) without e = record { after = layout_more tb p os plain z first; judged = never; accepts = λ right. (no_jobs tb z, rw z e) }
  frame_was (layout_frame p) (behind plain some_layout no_more) without e = absurd (true≢false no_more)
  frame_was (job_frame t b) (ahead plain z first) without e = never first
  frame_was (job_frame t b) (behind plain some_layout no_more) without e = record { after = behind (plain_more tb t b 0 plain) some_layout no_more; judged = never; accepts = job_was t b 0 plain some_layout e }
  frame_was (solo_frame t b) (ahead plain z first) without e = never first
  frame_was (solo_frame t b) (behind plain some_layout no_more) without e = record { after = behind (plain_more tb t b 1 plain) some_layout no_more; judged = never; accepts = job_was t b 1 plain some_layout e }
  frame_was (window_frame t b v) (ahead plain z first) without e = never first
  frame_was (window_frame t b v) (behind plain some_layout no_more) without e = absurd (true≢false without)
  frame_was (end_frame n m) (ahead plain z first) without e = never first
  frame_was (end_frame n m) (behind plain some_layout no_more) without e =
      let counts = refuse_if (not (eqb n (length tb.parents) && eqb m (jobs tb))) 7 line in
      let content = (then_accepted (refuse_if (ended || eqb (length tb.parents) 0) 2 line) (counts then on_its_line own (jobs_verdict tb)) e).1 in
      let right = placed_accepted own (jobs_verdict tb) (then_accepted counts (on_its_line own (jobs_verdict tb)) content).1 in
      record { after = behind plain some_layout no_more; judged = λ q. right; accepts = λ r. (right, rw (right, then_last counts) at e) }

module _ (tb' : Table) where
  frames_was : (before : Table → Bool → Reading) (later : Table → List ℕ → Bool → Reading) (os : List (Option Frame))
      → ((tb : Table) (own : List ℕ) (ended : Bool) → Within tb os → any_of has_window os ≡ false → (ended ≡ true → jobs_verdict tb ≡ accepted) → later tb own ended ≡ read tb' → (jobs_verdict tb ≡ accepted) × (before tb ended ≡ read tb'))
      → (line : ℕ) (tb : Table) (own : List ℕ) (ended : Bool) (o : Option Frame) → Within tb (o ∷ os) → any_of has_window (o ∷ os) ≡ false → read_frame later line tb own ended o ≡ read tb' → (jobs_verdict tb ≡ accepted) × (Former.read_frame before line tb ended o ≡ read tb')
  unfolding Former.read_frame read_frame unless_refused any_of
  frames_was before later os ih line tb own ended none w without e = let apart : ◌≡◌ {A = ℕ} 0 1 = cc in absurd (omega arith)
  frames_was before later os ih line tb own ended (some f) w without e =
      let both = accepted_reading (frame_verdict line tb own ended f) (later (extended tb f) (with_own_line own line f) (is_end f)) tb' e in
      let windows = or_false_both (has_window (some f)) (any_of has_window os) without in
      let was = frame_was line tb own ended os f w windows.0 both.0 in
      let rest = ih (extended tb f) (with_own_line own line f) (is_end f) was.after windows.1 was.judged both.1 in
      let here = was.accepts rest.0 in
      (here.0, rw here.1 rest.1)

  lines_was : (ls : List Line) (line : ℕ) (tb : Table) (own : List ℕ) (ended : Bool) → Within tb (map frame_of ls) → any_of has_window (map frame_of ls) ≡ false → (ended ≡ true → jobs_verdict tb ≡ accepted) → read_lines ls line tb own ended ≡ read tb'
      → (jobs_verdict tb ≡ accepted) × (Former.read_lines ls line tb ended ≡ read tb')
  unfolding Former.read_lines read_lines
  lines_was [] line tb own true w without judged e = (judged refl, e)
  lines_was [] line tb own false w without judged e = let apart : ◌≡◌ {A = ℕ} 0 1 = cc in absurd (omega arith)
  lines_was (l ∷ ls) line tb own ended w without judged e = frames_was (Former.read_lines ls (suc line)) (read_lines ls (suc line)) (map frame_of ls) (lines_was ls (suc line)) line tb own ended (frame_of l) w without e

-- a table that is accepted now was accepted before, with the same columns, if its layouts stand first and its lines have no window
pub read_before : (bytes : List ℕ) (tb : Table) → read_table bytes ≡ read tb → layouts_first (map frame_of (lines bytes)) ≡ true → any_of has_window (map frame_of (lines bytes)) ≡ false → Former.read_table bytes ≡ read tb
unfolding Former.read_table read_table
read_before bytes tb is first without = (lines_was tb (lines bytes) 1 empty_table [] false (ahead (record { even = refl; zeros = refl }) refl first) without never is).1
