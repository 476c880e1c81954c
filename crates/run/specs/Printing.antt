-- The lines of a plan, appended pass by pass.
use Rattle.std.specs.Prelude.{ℕ, zero, suc, ◌+◌, ◌-◌, ◌*◌, ◌≤◌, ◌<◌, ◌≡◌, length, get_or, replicate}
use Rattle.std.specs.Borrow.{MutBor}
use Rattle.std.proofs.Math.Path.{refl, ap}
use Rattle.std.proofs.Common.{sym, ◌∙◌, add-one, take-suc}
use mathlib.Core.List.{List, [], ◌∷◌, ◌++◌, flat_map}
use native.Mathlib.Omega.{arith}
use Rattle.std.proofs.Math.ListN.{take}
use Rattle.std.proofs.Math.Seq.{take_all}
use Rattle.model.specs.Lists.{total}
use Rattle.model.specs.Jobs.{Table}
use Rattle.model.specs.Greedy.{Pass, pair, single, passes}
use Rattle.model.specs.Planning.{pair_count, single_count, pairs, singles}
use Rattle.model.specs.Output.{pair_line, single_line, totals_line, pass_line, plan_bytes, output_bytes}
use Rattle.model.specs.declared.Totals.{Totals}
use Rattle.laws.specs.Lists.{total_more, flat_more}
use Rattle.settle.specs.declared.SettledTree.{SettledTree}
use Rattle.jobs.specs.Accepted.{Accepted}
use Rattle.matching.specs.Partners.{jobs_counted}
use Rattle.passes.specs.Read.{PassRead}
use Rattle.passes.specs.OfTable.{PassIs, plan_pass}
use Rattle.highest.specs.Columns.{Highests}
use Rattle.passes.specs.PlanPass.{one_known, other_known, one_upper, one_printed, Plan, within, plan_read, TotalsOf}
use Rattle.passes.specs.declared.Pass as declared
use Rattle.passes.specs.declared.Pass.TheVariants as pass
use Rattle.lines.specs.declared.Writer.{Writer}
use Rattle.lines.specs.Writing.{Appended, Printed, printed_all}
use Rattle.lines.specs.Writers.{written, output, Begun, Put, Cleared, printed_by}

-- how long the line of a pass is, and the line
abbrev pub line_length : declared.Pass → ℕ
line_length (pass.Pair one other layout) = 19
line_length (pass.Single job) = 7

abbrev pub line_of : List ℕ → declared.Pass → List ℕ
line_of highests (pass.Pair one other layout) = pair_line one.0 other.0 (get_or highests one.0 0) layout.0
line_of highests (pass.Single job) = single_line job.0

abbrev pub LineAppended : List ℕ → declared.Pass → ℕ → List ℕ → ℕ → List ℕ → Type 0
LineAppended highests x at out r out' = Appended (line_length x) at (line_of highests x) out r out'

-- two jobs are among n
abbrev pub PairKnown : declared.Pass → ℕ → Type 0
PairKnown (pass.Pair one other layout) n = (one.0 < n) × (other.0 < n)
PairKnown (pass.Single job) n = Unit {0}

-- the lines of the first k passes stand in front of r
pub record PassesAppended (tb : Table) (k : ℕ) (out : List ℕ) (r : ℕ) (out' : List ℕ) : Type 0 where
  pub sized : length out' ≡ length out
  pub counted : r ≡ 19 * total pair_count (take k (passes tb)) + 7 * total single_count (take k (passes tb))
  pub holds : take r out' ≡ flat_map (pass_line tb) (take k (passes tb))

-- ---- totals and lines of the first passes

total_take : (f : Pass → ℕ) (k : ℕ) (ps : List Pass) → total f (take k ps) ≤ total f ps
unfolding total
total_take f zero ps = omega arith
total_take f (suc k) [] = omega arith
total_take f (suc k) (x ∷ ps) = omega (arith, total_take f k ps)

module _ (tb : Table) (a : Accepted tb) (highests : List ℕ) (high : Highests tb highests) (k : ℕ) (h : k < length (passes tb)) where
  next : take (suc k) (passes tb) ≡ take k (passes tb) ++ plan_pass tb k ∷ []
  next = take-suc (passes tb) k (single 0) h

  -- the line of the pass read is that of the plan
  line_is : (p : Pass) → plan_pass tb k ≡ p → (x : declared.Pass) → PassIs tb p x → line_of highests x ≡ pass_line tb p
  unfolding pass_line
  line_is (pair i j) is (pass.Pair one other layout) e = rw (e.0, e.1, e.2, high.highest_at i (one_known tb a k i j h is), one_upper tb a k i j h is, one_printed tb a k i j h is) refl
  line_is (pair i j) is (pass.Single job) e = absurd e
  line_is (single i) is (pass.Pair one other layout) e = absurd e
  line_is (single i) is (pass.Single job) e = rw e refl

  pair_known : (p : Pass) → plan_pass tb k ≡ p → (x : declared.Pass) → PassIs tb p x → PairKnown x (length highests)
  pair_known (pair i j) is (pass.Pair one other layout) e = rw (e.0, e.1, high.counted) (one_known tb a k i j h is, other_known tb a k i j h is)
  pair_known (pair i j) is (pass.Single job) e = absurd e
  pair_known (single i) is (pass.Pair one other layout) e = absurd e
  pair_known (single i) is (pass.Single job) e = tt

  length_is : (p : Pass) (x : declared.Pass) → PassIs tb p x → line_length x ≡ 19 * pair_count p + 7 * single_count p
  unfolding pair_count single_count
  length_is (pair i j) (pass.Pair one other layout) e = refl
  length_is (pair i j) (pass.Single job) e = absurd e
  length_is (single i) (pass.Pair one other layout) e = absurd e
  length_is (single i) (pass.Single job) e = refl

  -- there is room for it: two jobs take 19 bytes, one takes 7
  room_left : (at : ℕ) (x : declared.Pass) → PassIs tb (plan_pass tb k) x → at ≡ 19 * total pair_count (take k (passes tb)) + 7 * total single_count (take k (passes tb)) → at + line_length x ≤ 38912
  unfolding pairs singles
  room_left at x e counted =
      omega (
        arith,
        length_is (plan_pass tb k) x e,
        total_more pair_count (take k (passes tb)) (plan_pass tb k),
        total_more single_count (take k (passes tb)) (plan_pass tb k),
        ap (total pair_count) next,
        ap (total single_count) next,
        total_take pair_count (suc k) (passes tb),
        total_take single_count (suc k) (passes tb),
        jobs_counted tb,
        a.few,
      )

  more : (out out₁ out₂ : List ℕ) (at r : ℕ) (x : declared.Pass) → PassIs tb (plan_pass tb k) x → PassesAppended tb k out at out₁ → LineAppended highests x at out₁ r out₂ → PassesAppended tb (suc k) out r out₂
  more out out₁ out₂ at r x e s l =
      record {
        sized = l.sized ∙ s.sized;
        counted =
            omega (
              arith,
              l.moved,
              s.counted,
              length_is (plan_pass tb k) x e,
              total_more pair_count (take k (passes tb)) (plan_pass tb k),
              total_more single_count (take k (passes tb)) (plan_pass tb k),
              ap (total pair_count) next,
              ap (total single_count) next,
            );
        holds = l.holds ∙ rw (s.holds, line_is (plan_pass tb k) refl x e) (sym (ap (flat_map (pass_line tb)) next ∙ flat_more (pass_line tb) (take k (passes tb)) (plan_pass tb k)));
      }

-- ---- the passes in the work cells

module _ (tb : Table) (ps : List ℕ) (tree : SettledTree) (highests bottoms work : List ℕ) (count : ℕ) (p : Plan tb ps tree highests bottoms work count) where
  pub passes_none : (out : List ℕ) (r : ℕ) → r ≡ 0 → PassesAppended tb 0 out r out
  unfolding total flat_map
  passes_none out r e = record { sized = refl; counted = omega arith; holds = rw e refl }

  module _ (k : ℕ) (h : k < count) (x : declared.Pass) (o : PassRead ps bottoms work k x) where
    is : PassIs tb (plan_pass tb k) x
    is = plan_read tb ps tree highests bottoms work count p k h x o

    pub passes_known : PairKnown x (length highests)
    passes_known = pair_known tb p.table highests p.high k (within tb ps tree highests bottoms work count p k h) (plan_pass tb k) refl x is

    pub passes_room : (out out₁ : List ℕ) (at : ℕ) → output_bytes ≤ length out → PassesAppended tb k out at out₁ → at + line_length x ≤ length out₁
    passes_room out out₁ at long s = omega (arith, room_left tb p.table highests p.high k (within tb ps tree highests bottoms work count p k h) at x is s.counted, s.sized)

    pub passes_more : (out out₁ out₂ : List ℕ) (at r : ℕ) → PassesAppended tb k out at out₁ → LineAppended highests x at out₁ r out₂ → PassesAppended tb (k + 1) out r out₂
    passes_more out out₁ out₂ at r s l = rw add-one (more tb p.table highests p.high k (within tb ps tree highests bottoms work count p k h) out out₁ out₂ at r x is s l)

  -- the totals have room, and the whole is printed
  pub totals_room : (k : ℕ) (out : List ℕ) (r : ℕ) (out' : List ℕ) → output_bytes ≤ length out → PassesAppended tb k out r out' → r + 19 ≤ length out'
  unfolding pairs singles
  totals_room k out r out' long s = omega (arith, s.counted, s.sized, total_take pair_count k (passes tb), total_take single_count k (passes tb), jobs_counted tb, p.table.few)

  -- what they leave in front of r is the plan
  plan_held : (t : Totals) → TotalsOf tb t → (k : ℕ) → count ≤ k → {out out₁ out₂ : List ℕ} {at r : ℕ} → PassesAppended tb k out at out₁ → Appended 19 at (totals_line t.pairs t.singles t.visits) out₁ r out₂ → take r out₂ ≡ plan_bytes tb
  unfolding plan_bytes
  plan_held t of k h s l =
      let all : take k (passes tb) ≡ passes tb = take_all k (passes tb) (rw p.count_is at h) in
      l.holds ∙ rw (s.holds, all, of.pairs_are, of.singles_are, of.visits_are) refl

  pub plan_printed : (t : Totals) → TotalsOf tb t → (k : ℕ) → count ≤ k → (out out₁ out₂ out₃ : List ℕ) (at r : ℕ) → output_bytes ≤ length out → PassesAppended tb k out at out₁
      → Appended 19 at (totals_line t.pairs t.singles t.visits) out₁ r out₂ → out₃ ≡ take r out₂ ++ replicate (length out₂ - r) 0 → Printed (plan_bytes tb) out r out₃
  plan_printed t of k h out out₁ out₂ out₃ at r long s l z = printed_all (plan_bytes tb) out r out₂ out₃ (l.sized ∙ s.sized) (omega (arith, totals_room k out at out₁ long s, l.moved, l.sized)) (plan_held t of k h s l) z

  -- the same, by way of a writer
  pub plan_put : (t : Totals) → TotalsOf tb t → {r : ℕ} {left out' : List ℕ} {out : MutBor (List ℕ)} {w w₁ w₂ : Writer} → Begun out w → PassesAppended tb count (output w) (written w₁) (output w₁)
      → Put 19 (totals_line t.pairs t.singles t.visits) w₁ w₂ → Cleared w₂ r left → out' ≡ left → Printed (plan_bytes tb) out.now r out'
  plan_put t of b s l z e = printed_by b (l.appended.sized ∙ s.sized) (plan_held t of count (omega arith) s l.appended) z e
