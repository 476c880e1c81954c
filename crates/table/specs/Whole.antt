-- The parts put together: the lines read, their jobs checked, and the outcome of the whole.
use Rattle.std.specs.Prelude.{ℕ, ◌-◌, ◌≤◌, ◌<◌, Bool, true, false, not, ◌||◌, length, take, replicate, leb, ltb, Option, Result, Ok, Err, is_err}
use Rattle.std.proofs.Math.Path.{◌≡◌, refl}
use Rattle.std.proofs.Common.{sym, ap, ◌∙◌, arith, length-take, take-append-drop, ltb-false, true≢false}
use mathlib.Core.List.Memᴰ.{head as here}
use mathlib.Core.List.Memᴰ.{tail as there}
use mathlib.Core.List.{List, [], ◌∷◌, ◌++◌, map, foldr, Memᴰ as Mem}
use Rattle.std.proofs.Math.Nat.{sub-zero}
use Rattle.std.proofs.lemmas.List.{length-replicate}
use Rattle.std.proofs.Math.Seq.{length-take-le}
use Rattle.model.specs.Verdict.{Verdict, accepted, refused, refuse_if, ◌then◌, padded}
use Rattle.model.specs.Lists.{numbers}
use Rattle.model.specs.Tree.{FFFF, layout_limit, ancestor_or_self, layouts_from, tree_verdict}
use Rattle.model.specs.Jobs.{Table, jobs, job_limit, window_limit, top, bottom, window, job_verdict}
use Rattle.model.specs.Planning.{jobs_verdict}
use Rattle.model.specs.Table.{on_its_line, Reading, read, stopped, unless_refused, read_table, buffers_verdict, table_read, read_answer, reading_answer}
use Rattle.model.specs.Outcomes.{ReadAs}
use Rattle.model.specs.Answers.{reason_number}
use Rattle.model.specs.declared.Refusal.{Refusal}
use Rattle.model.specs.declared.Counts.{Counts}
use Rattle.laws.specs.Numbers.{numbers_mem}
use Rattle.laws.specs.Verdicts.{not_refused}
use Rattle.laws.specs.Booleans.{or_false_both}
use Rattle.tree_laws.specs.WellFormed.{Tree, well_formed}
use Rattle.settle.specs.Spanned.{Spanned}
use Rattle.jobs.specs.Accepted.{Accepted, table_accepted}
use Rattle.jobs.specs.Checks.{check_verdict, JobsChecked}
use Rattle.jobs.specs.declared.WrongJob.{WrongJob}
use Rattle.own_line.specs.OwnLine.{own_line}
use Rattle.reading.specs.Steps.{judged_at_end, Unused, Spare, Roomy, BuffersReady, held, Holds, EndRead}
use Rattle.settle.specs.declared.SettledTree.{SettledTree}

-- ---- the lines

-- a right tree of at least one layout
pub right_tree : (ps : List ℕ) → 0 < length ps → length ps ≤ layout_limit → layouts_from 0 ps ≡ accepted → Tree ps
unfolding tree_verdict
right_tree [] h few right = absurd (omega arith)
right_tree (p ∷ ps) h few right = well_formed (p ∷ ps) right few

-- a wrong job has its own line, and that is a number of 16 bits
abbrev pub Placed : List ℕ → Result Unit WrongJob → Type 0
Placed bytes c = (w : WrongJob) → c ≡ Err w → (0 < own_line bytes w.job.0) × (own_line bytes w.job.0 < 65536)

-- the answer tells the reading t: N and M of the table that is read, or the refusal
abbrev pub Told : Reading → Table → Result Counts Refusal → Type 0
Told t tb (Ok c) = (t ≡ read tb) × (c.layouts ≡ length tb.parents) × (c.jobs ≡ jobs tb)
Told t tb (Err r) = t ≡ stopped (reason_number r.reason) r.place

-- the job that is refused first is one of the list
first_refused : (f : ℕ → Verdict) (k : ℕ) (l : List ℕ) (number place : ℕ) → ((j : ℕ) → Mem j l → (n p : ℕ) → f j ≡ refused n p → p < k) → foldr ◌then◌ accepted (map f l) ≡ refused number place → place < k
first_refused f k [] number place h e = let apart : ◌≡◌ {A = ℕ} 0 1 = cc in absurd (omega arith)
first_refused f k (x ∷ xs) number place h e = go (f x) refl (first_refused f k xs number place (λ j m. h j (there m)))
  where
    go : (v : Verdict) → f x ≡ v → (foldr ◌then◌ accepted (map f xs) ≡ refused number place → place < k) → place < k
    go accepted q later = later (rw q at e)
    go (refused n p) q later = h x (here refl) number place (q ∙ (rw q at e))

own_place : (ps : List ℕ) (t b v j n p : ℕ) → job_verdict ps t b v j ≡ refused n p → p ≡ j
unfolding job_verdict
own_place ps t b v j n p e = go (leb (length ps) t || leb (length ps) b) (not (ancestor_or_self ps t b)) (leb window_limit v) e
  where
    go : (x y z : Bool) → (refuse_if x 5 j then refuse_if y 6 j then refuse_if z 9 j) ≡ refused n p → p ≡ j
    go true y z q = cc
    go false true z q = cc
    go false false true q = cc
    go false false false q = let apart : ◌≡◌ {A = ℕ} 0 1 = cc in absurd (omega arith)

refused_job : (tb : Table) (number place : ℕ) → jobs_verdict tb ≡ refused number place → place < jobs tb
unfolding jobs_verdict
refused_job tb number place e =
    first_refused (λ (j : ℕ). job_verdict tb.parents (top tb j) (bottom tb j) (window tb j) j) (jobs tb) (numbers (jobs tb)) number place
    (λ j m n p q. omega (arith, own_place tb.parents (top tb j) (bottom tb j) (window tb j) j n p q, numbers_mem (jobs tb) m)) e

-- the reading t is the table of n layouts and m jobs in the first cells, which *Plan* accepts; no other cell is used, and the layouts are settled
pub record TableHeld (t : Reading) (parents tops bottoms marks windows : List ℕ) (tree : SettledTree) (n m : ℕ) : Type 0 where
  pub whole : t ≡ read (held parents tops bottoms marks windows n m)
  pub holds : Holds parents tops bottoms marks windows n m
  pub spanned : Spanned (take n parents) tree
  pub table : Accepted (held parents tops bottoms marks windows n m)

-- what a refusal leaves in the cells is open
abbrev pub LinesOutcome : Reading → List ℕ → List ℕ → List ℕ → List ℕ → List ℕ → SettledTree → Result Counts Refusal → Type 0
LinesOutcome t parents tops bottoms marks windows tree (Ok c) = TableHeld t parents tops bottoms marks windows tree c.layouts c.jobs
LinesOutcome t parents tops bottoms marks windows tree (Err r) = t ≡ stopped (reason_number r.reason) r.place

module _ (bytes parents tops bottoms marks windows : List ℕ) (tree : SettledTree) (n m : ℕ) (a : Option Refusal) (c : Result Unit WrongJob) (l : EndRead bytes parents tops bottoms marks windows n m a)
    (spanned : Spanned (take n parents) tree) (k : JobsChecked n (take m tops) (take m bottoms) (take m windows) tree c) where
  counted_layouts : length (take n parents) ≡ n
  counted_layouts = length-take-le n parents l.holds.parents_hold

  counted_jobs : length (take m tops) ≡ m
  counted_jobs = length-take-le m tops l.holds.tops_hold

  -- the check is that of the table in the cells
  jobs_checked : jobs_verdict (held parents tops bottoms marks windows n m) ≡ check_verdict c
  jobs_checked = k.verdict (take n parents) (take m marks) counted_layouts (λ h. spanned)

  pub wrong_placed : Placed bytes c
  wrong_placed w is =
      let one : w.job.0 < length (take m tops) = refused_job (held parents tops bottoms marks windows n m) (reason_number w.reason) w.job.0 (jobs_checked ∙ ap check_verdict is) in
      let own = l.standing w.job.0 (omega (arith, counted_jobs)) in
      (own.0, omega (arith, own.1, l.holds.few_layouts, l.holds.few_jobs_lem))

  -- what the bytes come to
  judged_is : read_table bytes ≡ judged_at_end bytes (held parents tops bottoms marks windows n m) a (check_verdict c)
  judged_is = l.next ∙ rw jobs_checked refl

  -- a table is read only where no job is wrong
  right_jobs : (v : Verdict) → judged_at_end bytes (held parents tops bottoms marks windows n m) a v ≡ read (held parents tops bottoms marks windows n m) → v ≡ accepted
  unfolding unless_refused on_its_line
  right_jobs accepted e = refl
  right_jobs (refused number place) e = let apart : ◌≡◌ {A = ℕ} 0 1 = cc in absurd (omega arith)

  pub lines_outcome : (r : Result Counts Refusal) → Told (judged_at_end bytes (held parents tops bottoms marks windows n m) a (check_verdict c)) (held parents tops bottoms marks windows n m) r → LinesOutcome (read_table bytes) parents tops bottoms marks windows tree r
  lines_outcome (Err r) t = judged_is ∙ t
  lines_outcome (Ok x) t =
      let h = l.holds in
      rw (t.1 ∙ counted_layouts, t.2 ∙ counted_jobs)
      (record {
        whole = judged_is ∙ t.0;
        holds = h;
        spanned = spanned;
        table = table_accepted (held parents tops bottoms marks windows n m) spanned.tree (rw counted_jobs h.few_jobs_lem) (length-take-le m bottoms h.bottoms_hold ∙ sym counted_jobs) (length-take-le m marks h.marks_hold ∙ sym counted_jobs) (length-take-le m windows h.windows_hold ∙ sym counted_jobs) (jobs_checked ∙ right_jobs (check_verdict c) t.0);
      })

-- ---- the buffers' sizes

-- the buffers are as long as asked for
pub record BuffersLong (parents tops bottoms marks windows : List ℕ) : Type 0 where
  pub parents_long : layout_limit ≤ length parents
  pub tops_long : job_limit ≤ length tops
  pub bottoms_long : job_limit ≤ length bottoms
  pub marks_long : job_limit ≤ length marks
  pub windows_long : job_limit ≤ length windows

-- which is room for any table
long_roomy : (bytes parents tops bottoms marks windows : List ℕ) → BuffersLong parents tops bottoms marks windows → Roomy bytes parents tops bottoms marks windows
long_roomy bytes parents tops bottoms marks windows b =
    record {
      parents_room = b.parents_long;
      tops_room = λ m h k. omega (arith, b.tops_long);
      bottoms_room = λ m h k. omega (arith, b.bottoms_long);
      marks_room = λ m h k. omega (arith, b.marks_long);
      windows_room = λ m h k. omega (arith, b.windows_long);
    }

pub sizes_accepted : (parents tops bottoms marks windows : List ℕ) → buffers_verdict (length parents) (length tops) (length bottoms) (length marks) (length windows) ≡ accepted
    → BuffersLong parents tops bottoms marks windows
unfolding buffers_verdict
sizes_accepted parents tops bottoms marks windows e =
    let p = ltb (length parents) layout_limit in
    let t = ltb (length tops) job_limit in
    let b = ltb (length bottoms) job_limit in
    let m = ltb (length marks) job_limit in
    let w = ltb (length windows) job_limit in
    let five = or_false_both (p || t || b || m) w (not_refused (p || t || b || m || w) 8 0 e) in
    let four = or_false_both (p || t || b) m five.0 in
    let three = or_false_both (p || t) b four.0 in
    let two = or_false_both p t three.0 in
    record {
      parents_long = ltb-false (length parents) layout_limit two.0;
      tops_long = ltb-false (length tops) job_limit two.1;
      bottoms_long = ltb-false (length bottoms) job_limit three.1;
      marks_long = ltb-false (length marks) job_limit four.1;
      windows_long = ltb-false (length windows) job_limit five.1;
    }

-- ---- the outcome

-- a buffer whose cells from n on hold v holds its first n and v in the others
used_padded : (v n : ℕ) (cells old : List ℕ) → length cells ≡ length old → Unused v n cells → cells ≡ padded (length old) v (take n cells)
used_padded v n cells old e u =
    let left : length cells - n ≡ length old - length (take n cells) = rw length-take (omega arith) in
    sym (take-append-drop n cells) ∙ ap (λ (l : List ℕ). take n cells ++ l) (u ∙ ap (λ (k : ℕ). replicate k v) left)

-- a buffer that was filled has no used cell
pub filled_unused : (v : ℕ) (cells old : List ℕ) → cells ≡ replicate (length old) v → Unused v 0 cells
filled_unused v cells old e =
    let long : length cells ≡ length old = ap length e ∙ length-replicate (length old) v in
    rw (sub-zero (length cells), long) e

-- lengths of the buffers are kept
pub record Kept (parents tops bottoms marks windows parents' tops' bottoms' marks' windows' : List ℕ) : Type 0 where
  pub parents_kept : length parents' ≡ length parents
  pub tops_kept : length tops' ≡ length tops
  pub bottoms_kept : length bottoms' ≡ length bottoms
  pub marks_kept : length marks' ≡ length marks
  pub windows_kept : length windows' ≡ length windows

-- buffers that were long and are clear are ready
pub cleared_ready : (bytes parents tops bottoms marks windows parents' tops' bottoms' marks' windows' : List ℕ) → BuffersLong parents tops bottoms marks windows → Kept parents tops bottoms marks windows parents' tops' bottoms' marks' windows' → Spare parents' tops' bottoms' marks' windows' 0 0 → BuffersReady bytes parents' tops' bottoms' marks' windows'
cleared_ready bytes parents tops bottoms marks windows parents' tops' bottoms' marks' windows' b k clear =
    record {
      room =
          long_roomy bytes parents' tops' bottoms' marks' windows'
          (record {
            parents_long = rw k.parents_kept b.parents_long;
            tops_long = rw k.tops_kept b.tops_long;
            bottoms_long = rw k.bottoms_kept b.bottoms_long;
            marks_long = rw k.marks_kept b.marks_long;
            windows_long = rw k.windows_kept b.windows_long;
          });
      clear = clear;
    }

-- refusal 8 changes nothing
pub sizes_refused : (t : Reading) (parents tops bottoms marks windows : List ℕ) (r : Refusal) → reason_number r.reason ≡ 8 → r.place ≡ 0
    → ReadAs (refused 8 0) t parents tops bottoms marks windows (Err r) parents tops bottoms marks windows
unfolding read_answer
sizes_refused t parents tops bottoms marks windows r number place = record { answered = rw (number, place); parents_hold = refl; tops_hold = refl; bottoms_hold = refl; marks_hold = refl; windows_hold = refl }

module _ (t : Reading) (parents tops bottoms marks windows parents' tops' bottoms' marks' windows' : List ℕ) where
  pub all_read : (tree : SettledTree) (r : Result Counts Refusal) → is_err r ≡ false → LinesOutcome t parents' tops' bottoms' marks' windows' tree r
      → Kept parents tops bottoms marks windows parents' tops' bottoms' marks' windows' → ReadAs accepted t parents tops bottoms marks windows r parents' tops' bottoms' marks' windows'
  unfolding read_answer reading_answer table_read
  all_read tree (Err x) fine o k = absurd (true≢false fine)
  all_read tree (Ok c) fine o k =
      let whole = o.whole in
      record {
        answered = rw (whole, length-take-le c.layouts parents' o.holds.parents_hold, length-take-le c.jobs tops' o.holds.tops_hold);
        parents_hold = rw whole (used_padded FFFF c.layouts parents' parents k.parents_kept o.holds.spare.parents_spare);
        tops_hold = rw whole (used_padded FFFF c.jobs tops' tops k.tops_kept o.holds.spare.tops_spare);
        bottoms_hold = rw whole (used_padded FFFF c.jobs bottoms' bottoms k.bottoms_kept o.holds.spare.bottoms_spare);
        marks_hold = rw whole (used_padded 0 c.jobs marks' marks k.marks_kept o.holds.spare.marks_spare);
        windows_hold = rw whole (used_padded 0 c.jobs windows' windows k.windows_kept o.holds.spare.windows_spare);
      }

  -- what a refusal left in the cells is cleared
  pub refused_clear : (parents₁ tops₁ bottoms₁ marks₁ windows₁ : List ℕ) (tree : SettledTree) (r : Result Counts Refusal) → is_err r ≡ true → LinesOutcome t parents₁ tops₁ bottoms₁ marks₁ windows₁ tree r
      → Spare parents' tops' bottoms' marks' windows' 0 0 → Kept parents tops bottoms marks windows parents' tops' bottoms' marks' windows'
      → ReadAs accepted t parents tops bottoms marks windows r parents' tops' bottoms' marks' windows'
  unfolding read_answer reading_answer table_read
  refused_clear parents₁ tops₁ bottoms₁ marks₁ windows₁ tree (Ok c) wrong o clear k = absurd (true≢false (sym wrong))
  refused_clear parents₁ tops₁ bottoms₁ marks₁ windows₁ tree (Err r) wrong e clear k =
      record {
        answered = rw e;
        parents_hold = rw e (used_padded FFFF 0 parents' parents k.parents_kept clear.parents_spare);
        tops_hold = rw e (used_padded FFFF 0 tops' tops k.tops_kept clear.tops_spare);
        bottoms_hold = rw e (used_padded FFFF 0 bottoms' bottoms k.bottoms_kept clear.bottoms_spare);
        marks_hold = rw e (used_padded 0 0 marks' marks k.marks_kept clear.marks_spare);
        windows_hold = rw e (used_padded 0 0 windows' windows k.windows_kept clear.windows_spare);
      }
