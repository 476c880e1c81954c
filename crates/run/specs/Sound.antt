-- A table that *Read a table* accepts is one that *Plan* accepts: each line was judged as it was read, and the jobs at the end.
use Rattle.std.specs.Prelude.{ℕ, suc, ◌≤◌, refl, ◌≢◌, Bool, not, ◌||◌, ◌&&◌, length, eqb, leb}
use Rattle.std.proofs.Math.Path.{◌≡◌}
use Rattle.std.proofs.Common.{sym, ◌∙◌, zero-add, arith, length-append, leb-false}
use Rattle.std.proofs.Math.Bool.{true, false}
use Rattle.std.proofs.Math.Option.{Option, none, some}
use mathlib.Core.List.{List, [], ◌∷◌, ◌++◌}
use Rattle.std.proofs.lemmas.Bool.{eqb-false, not-false}
use Rattle.model.specs.Verdict.{accepted, refuse_if, ◌then◌}
use Rattle.model.specs.Tree.{layout_limit, right_parent, layouts_from, tree_verdict}
use Rattle.model.specs.Jobs.{Table, jobs, job_limit, window_limit}
use Rattle.model.specs.Planning.{work_cells, jobs_verdict, plan_verdict}
use Rattle.model.specs.Table.{Line, Frame, layout_frame, job_frame, solo_frame, window_frame, end_frame, frame_of, lines, on_its_line, is_end, beyond_windows, end_without_layout, content_verdict, frame_verdict, with_job, extended, with_own_line, Reading, read, read_frame, read_lines, empty_table, read_table}
use Rattle.tree_laws.specs.WellFormed.{well_formed, layouts_more}
use Rattle.laws.specs.Booleans.{or_false_both}
use Rattle.laws.specs.Verdicts.{placed_accepted, then_accepted, not_refused, accepted_reading}
use Rattle.settle.specs.Checked.{within_limit}
use Rattle.jobs.specs.Accepted.{Accepted, table_accepted}
use Rattle.jobs.specs.PlanVerdict.{right_layouts}

-- what holds of the table so far
pub record Sound (tb : Table) : Type 0 where
  pub small : length tb.parents ≤ layout_limit
  pub right : layouts_from 0 tb.parents ≡ accepted
  pub few : jobs tb ≤ job_limit
  pub bottoms_length : jobs tb ≡ length tb.bottoms
  pub marks_length : jobs tb ≡ length tb.marks
  pub windows_length : jobs tb ≡ length tb.windows

-- and what the end tells of it
pub record Ended (tb : Table) : Type 0 where
  pub some_layout : length tb.parents ≢ 0
  pub judged : jobs_verdict tb ≡ accepted

-- ---- one line more

module _ (tb : Table) (s : Sound tb) where
  layout_sound : (p line : ℕ) → (refuse_if (leb layout_limit (length tb.parents)) 3 line then refuse_if (not (right_parent (length tb.parents) p)) 4 line) ≡ accepted → Sound (record { parents = tb.parents ++ p ∷ []; tops = tb.tops; bottoms = tb.bottoms; marks = tb.marks; windows = tb.windows })
  layout_sound p line e =
      let both = then_accepted (refuse_if (leb layout_limit (length tb.parents)) 3 line) (refuse_if (not (right_parent (length tb.parents) p)) 4 line) e in
      record {
        small = omega (arith, length-append tb.parents (p ∷ []), leb-false layout_limit (length tb.parents) (not_refused (leb layout_limit (length tb.parents)) 3 line both.0));
        right = layouts_more 0 tb.parents p s.right (rw zero-add (not-false (right_parent (length tb.parents) p) (not_refused (not (right_parent (length tb.parents) p)) 4 line both.1)));
        few = s.few;
        bottoms_length = s.bottoms_length;
        marks_length = s.marks_length;
        windows_length = s.windows_length;
      }

  job_sound : (t b mark v line : ℕ) → refuse_if (leb job_limit (jobs tb)) 3 line ≡ accepted → Sound (with_job tb t b mark v)
  job_sound t b mark v line e =
      record {
        small = s.small;
        right = s.right;
        few = omega (arith, length-append tb.tops (t ∷ []), leb-false job_limit (jobs tb) (not_refused (leb job_limit (jobs tb)) 3 line e));
        bottoms_length = omega (arith, s.bottoms_length, length-append tb.tops (t ∷ []), length-append tb.bottoms (b ∷ []));
        marks_length = omega (arith, s.marks_length, length-append tb.tops (t ∷ []), length-append tb.marks (mark ∷ []));
        windows_length = omega (arith, s.windows_length, length-append tb.tops (t ∷ []), length-append tb.windows (v ∷ []));
      }

no_end : {A : Type 0} → false ≡ true → A
no_end q = let apart : ◌≡◌ {A = ℕ} 0 1 = cc in absurd (omega arith)

-- a frame that is accepted keeps the table sound, and an end has judged it
frame_sound : (line : ℕ) (tb : Table) (own : List ℕ) (ended : Bool) (f : Frame) → Sound tb → frame_verdict line tb own ended f ≡ accepted → Sound (extended tb f) × (is_end f ≡ true → Ended (extended tb f))
unfolding frame_verdict beyond_windows end_without_layout content_verdict extended is_end
frame_sound line tb own ended (layout_frame p) s e =
    let both = then_accepted (refuse_if (ended || false) 2 line) (refuse_if (leb layout_limit (length tb.parents)) 3 line then refuse_if (not (right_parent (length tb.parents) p)) 4 line) e in
    (layout_sound tb s p line both.1, no_end)
frame_sound line tb own ended (job_frame t b) s e =
    let both = then_accepted (refuse_if (ended || false) 2 line) (refuse_if (leb job_limit (jobs tb)) 3 line) e in
    (job_sound tb s t b 0 0 line both.1, no_end)
frame_sound line tb own ended (solo_frame t b) s e =
    let both = then_accepted (refuse_if (ended || false) 2 line) (refuse_if (leb job_limit (jobs tb)) 3 line) e in
    (job_sound tb s t b 1 0 line both.1, no_end)
frame_sound line tb own ended (window_frame t b v) s e =
    let known = then_accepted (refuse_if (leb window_limit v) 9 line) (refuse_if (ended || false) 2 line then refuse_if (leb job_limit (jobs tb)) 3 line) e in
    let both = then_accepted (refuse_if (ended || false) 2 line) (refuse_if (leb job_limit (jobs tb)) 3 line) known.1 in
    (job_sound tb s t b 0 v line both.1, no_end)
frame_sound line tb own ended (end_frame n m) s e =
    let empty = eqb (length tb.parents) 0 in
    let counts = refuse_if (not (eqb n (length tb.parents) && eqb m (jobs tb))) 7 line in
    let first = then_accepted (refuse_if (ended || empty) 2 line) (counts then on_its_line own (jobs_verdict tb)) e in
    let second = then_accepted counts (on_its_line own (jobs_verdict tb)) first.1 in
    (s, λ q. record { some_layout = eqb-false (length tb.parents) 0 (or_false_both ended empty (not_refused (ended || empty) 2 line first.0)).1; judged = placed_accepted own (jobs_verdict tb) second.1 })

-- ---- all lines

-- the table that is read is sound, and was judged at its end
module _ (tb' : Table) where
  line_sound : (later : Table → List ℕ → Bool → Reading) → ((tb : Table) (own : List ℕ) (ended : Bool) → Sound tb → (ended ≡ true → Ended tb) → later tb own ended ≡ read tb' → Sound tb' × Ended tb') → (line : ℕ) (tb : Table) (own : List ℕ) (ended : Bool) (o : Option Frame) → Sound tb → read_frame later line tb own ended o ≡ read tb' → Sound tb' × Ended tb'
  unfolding read_frame
  line_sound later ih line tb own ended none s e = let apart : ◌≡◌ {A = ℕ} 0 1 = cc in absurd (omega arith)
  line_sound later ih line tb own ended (some f) s e =
      let both = accepted_reading (frame_verdict line tb own ended f) (later (extended tb f) (with_own_line own line f) (is_end f)) tb' e in
      let next = frame_sound line tb own ended f s both.0 in
      ih (extended tb f) (with_own_line own line f) (is_end f) next.0 next.1 both.1

  lines_sound : (ls : List Line) (line : ℕ) (tb : Table) (own : List ℕ) (ended : Bool) → Sound tb → (ended ≡ true → Ended tb) → read_lines ls line tb own ended ≡ read tb' → Sound tb' × Ended tb'
  unfolding read_lines
  lines_sound [] line tb own true s n e = let same : tb ≡ tb' = cc in rw (← same) (s, n refl)
  lines_sound [] line tb own false s n e = let apart : ◌≡◌ {A = ℕ} 0 1 = cc in absurd (omega arith)
  lines_sound (l ∷ ls) line tb own ended s n e = line_sound (read_lines ls (suc line)) (lines_sound ls (suc line)) line tb own ended (frame_of l) s e

empty_sound : Sound empty_table
unfolding layouts_from
empty_sound = record { small = omega arith; right = refl; few = omega arith; bottoms_length = refl; marks_length = refl; windows_length = refl }

-- ---- so *Plan* accepts it

some_layouts : (ps : List ℕ) → length ps ≢ 0 → layouts_from 0 ps ≡ accepted → tree_verdict ps ≡ accepted
unfolding tree_verdict
some_layouts [] n e = absurd (n refl)
some_layouts (p ∷ ps) n e = e

module _ (bytes : List ℕ) (tb : Table) (is : read_table bytes ≡ read tb) where
  pub read_sound : Sound tb × Ended tb
  unfolding read_table
  read_sound = lines_sound tb (lines bytes) 1 empty_table [] false empty_sound no_end is

  tree_right : tree_verdict tb.parents ≡ accepted
  tree_right = some_layouts tb.parents read_sound.1.some_layout read_sound.0.right

  -- it is a table that can be planned
  pub read_table_lem : Accepted tb
  read_table_lem =
      let s = read_sound.0 in
      table_accepted tb (well_formed tb.parents tree_right s.small) s.few (sym s.bottoms_length) (sym s.marks_length) (sym s.windows_length) read_sound.1.judged

  -- and *Plan* accepts it, with enough lent
  pub read_accepted : (partners uppers printed work : ℕ) → jobs tb ≤ partners → jobs tb ≤ uppers → jobs tb ≤ printed → work_cells ≤ work → plan_verdict tb partners uppers printed work ≡ accepted
  read_accepted partners uppers printed work p u l w =
      let s = read_sound.0 in
      right_layouts tb partners uppers printed work (record { bottoms_length = s.bottoms_length; marks_length = s.marks_length; windows_length = s.windows_length; partners_room = p; uppers_room = u; printed_room = l; work_room = w }) s.few (within_limit tb.parents s.small ∙ tree_right) ∙ read_sound.1.judged
