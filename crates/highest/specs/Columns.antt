-- What is set in the place of tops and marks: each job's highest layout other than 0, and a mark at each job that asks nobody.
use Rattle.std.specs.Prelude.{ℕ, ◌+◌, ◌<◌, ◌≤◌, ◌≡◌, refl, Bool, cond, ◌&&◌, List, length, get_or, set}
use Rattle.std.proofs.Math.Path.{sym}
use Rattle.std.proofs.Common.{◌∙◌, arith, length-set}
use Rattle.std.proofs.Math.Bool.{true, false, not, and-false, and-true, not-not}
use Rattle.std.proofs.Math.Dec.{eqb}
use Rattle.std.proofs.lemmas.Grind.{common_steps}
use Rattle.model.specs.Jobs.{Table, jobs, top, bottom, solo, bare, asks, highest}
use Rattle.tree_laws.specs.Sharing.{highest_is, bare_highest}
use Rattle.settle.specs.declared.SettledTree.{SettledTree}
use Rattle.settle.specs.Spanned.{Spanned}
use Rattle.jobs.specs.Accepted.{Accepted}

-- a job that asks, by the marks of those that do not
abbrev pub unmarked : List ℕ → ℕ → Bool
unmarked quiet j = eqb (get_or quiet j 0) 0

-- the highest layouts by job
pub record Highests (tb : Table) (highests : List ℕ) : Type 0 where
  pub counted : length highests ≡ jobs tb
  pub highest_at : (j : ℕ) → j < jobs tb → get_or highests j 0 ≡ highest tb j

-- and marks at those that ask nobody
pub record Columns (tb : Table) (highests quiet : List ℕ) : Type 0 where
  pub high : Highests tb highests
  pub quiet_length : length quiet ≡ jobs tb
  pub asks_at : (j : ℕ) → j < jobs tb → unmarked quiet j ≡ asks tb j

-- ---- one job more

-- what the cells of job j, with bottom b, get: its top is the highest layout unless it is layout 0, where the branch of the bottom is
pub record HighestSet (tree : SettledTree) (b j : ℕ) (tops marks : List ℕ) (h : ℕ) (tops' marks' : List ℕ) : Type 0 where
  pub highest_is : h ≡ cond (eqb (get_or tops j 0) 0) (get_or tree.branches b 0) (get_or tops j 0)
  pub top_set : tops' ≡ set tops j h
  pub mark_set : marks' ≡ set marks j (cond (eqb h 0) 1 (get_or marks j 0))

-- the first t jobs have their highest layouts and marks, the others still their tops and marks
pub record SetTo (tb : Table) (t : ℕ) (tops marks : List ℕ) : Type 0 where
  pub tops_length : length tops ≡ jobs tb
  pub marks_length : length marks ≡ jobs tb
  pub highest_at : (j : ℕ) → j < t → get_or tops j 0 ≡ highest tb j
  pub asks_at : (j : ℕ) → j < t → eqb (get_or marks j 0) 0 ≡ asks tb j
  pub top_at : (j : ℕ) → t ≤ j → get_or tops j 0 ≡ top tb j
  pub mark_at : (j : ℕ) → t ≤ j → get_or marks j 0 ≡ get_or tb.marks j 0

module _ (tb : Table) (a : Accepted tb) where
  pub set_none : SetTo tb 0 tb.tops tb.marks
  set_none =
      record {
        tops_length = refl;
        marks_length = a.marks_length;
        highest_at = λ j h. absurd (omega arith);
        asks_at = λ j h. absurd (omega arith);
        top_at = λ j h. refl;
        mark_at = λ j h. refl;
      }

  pub set_all : (t : ℕ) (tops marks : List ℕ) → jobs tb ≤ t → SetTo tb t tops marks → Columns tb tops marks
  set_all t tops marks all s =
      record {
        high = record { counted = s.tops_length; highest_at = λ j h. s.highest_at j (omega arith) };
        quiet_length = s.marks_length;
        asks_at = λ j h. s.asks_at j (omega arith);
      }

  module _ (j : ℕ) (h : j < jobs tb) (tree : SettledTree) (d : Spanned tb.parents tree) (tops marks : List ℕ) (s : SetTo tb j tops marks) where
    -- what the next job's cells get
    module _ (v : ℕ) (v-is : v ≡ cond (eqb (get_or tops j 0) 0) (get_or tree.branches (bottom tb j) 0) (get_or tops j 0)) (m : ℕ) (m-is : m ≡ cond (eqb v 0) 1 (get_or marks j 0)) where
      pub highest_value : v ≡ highest tb j
      highest_value = v-is ∙ rw (s.top_at j (omega arith), d.branch_at (bottom tb j) (a.bottom_known j h)) (sym (highest_is tb a.tree j (a.downward j h)))

      bare_value : eqb v 0 ≡ bare tb j
      bare_value = rw highest_value (bare_highest tb a.tree j (a.downward j h))

      asks_value : eqb m 0 ≡ asks tb j
      unfolding asks solo
      asks_value = rw (m-is, bare_value, s.mark_at j (omega arith)) (told (bare tb j) (get_or tb.marks j 0))
        where
          told : (b : Bool) (mark : ℕ) → eqb (cond b 1 mark) 0 ≡ (not (not (eqb mark 0)) && not b)
          told true mark = sym (and-false (not (not (eqb mark 0))))
          told false mark = sym (and-true (not (not (eqb mark 0))) ∙ not-not (eqb mark 0))

      pub set_more : SetTo tb (j + 1) (set tops j v) (set marks j m)
      set_more =
          record {
            tops_length = rw length-set s.tops_length;
            marks_length = rw length-set s.marks_length;
            highest_at = λ i l. grind (arith, common_steps, highest_value);
            asks_at = λ i l. grind (arith, common_steps, asks_value);
            top_at = λ i l. grind (arith, common_steps);
            mark_at = λ i l. grind (arith, common_steps);
          }
