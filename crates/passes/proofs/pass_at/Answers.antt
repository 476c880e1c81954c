-- `passes::pass_at` meets its contract: the opener has a mate or none.
use mathlib.Core.Path.{◌≡◌, sym, ◌∙◌}
use mathlib.Core.Logic.{◌≢◌}
use lib.ListN.{length}
use Rattle.model.specs.Tree.{FFFF}
use Rattle.schedule.specs.InWork.{job_in}
use mathlib.Core.List.{List}
use Prim.Native.Nat.{ℕ}
use Rattle.schedule.specs.Places.{held_none, held_one}
use Rattle.passes.specs.Read.{PairCells, PassCells, opener_in, mate_in}
use Rattle.passes.proofs.pass_at.Goals as goal

-- the jobs at the opener and at its mate, whatever tree their bottoms are of
cells_read :
    {ps bottoms work : List ℕ} {k i j : ℕ}
    → PassCells ps bottoms work k
    → mate_in (length bottoms) work (opener_in (length bottoms) work k) ≢ FFFF
    → i ≡ job_in work (opener_in (length bottoms) work k)
    → j ≡ job_in work (mate_in (length bottoms) work (opener_in (length bottoms) work k))
    → PairCells ps bottoms i j
cells_read cells some one other =
    let place = cells.mate_place some in
    record {
      one_known = rw one (cells.known _ cells.opener_place);
      other_known = rw other (cells.known _ place);
      one_bottom = rw one (cells.bottom_known _ (cells.known _ cells.opener_place));
      other_bottom = rw other (cells.bottom_known _ (cells.known _ place));
    }

pub place_in-opener-requires : goal.place_in-opener-requires
place_in-opener-requires c = c.requires.2.opener_inside

pub job_at-one-requires : goal.job_at-one-requires
job_at-one-requires c = rw c.place_in-opener.ensures (c.requires.2.order_inside _ c.requires.2.opener_place)

pub mate_at-requires : goal.mate_at-requires
mate_at-requires c = rw c.place_in-opener.ensures c.requires.2.mate_inside

pub job_at-requires : goal.job_at-requires
job_at-requires c =
    let mate = rw c.place_in-opener.ensures at (held_one _ _ (sym c.mate_at.ensures ∙ c.in-Some.is)) in
    let cells = c.requires.2 in
    rw mate.0 (cells.order_inside _ (cells.mate_place mate.1))

pub pair_of-requires : goal.pair_of-requires
pair_of-requires c =
    let cells = c.requires.2 in
    let mate = rw c.place_in-opener.ensures at (held_one _ _ (sym c.mate_at.ensures ∙ c.in-Some.is)) in
    let one = rw c.place_in-opener.ensures at c.job_at-one.ensures in
    let other = rw mate.0 at c.job_at.ensures in
    (c.requires.0, c.requires.1, cells_read cells mate.1 one other)

pub returns-in-Some : goal.returns-in-Some
returns-in-Some c =
    λ ps s cells.
    let mate = rw c.place_in-opener.ensures at (held_one _ _ (sym c.mate_at.ensures ∙ c.in-Some.is)) in
    let one = rw c.place_in-opener.ensures at c.job_at-one.ensures in
    let other = rw mate.0 at c.job_at.ensures in
    record {
      alone = λ e. absurd (mate.1 e);
      paired = λ n. rw (one, other) at (c.pair_of.ensures ps s (cells_read cells mate.1 one other));
    }

pub returns-in-None : goal.returns-in-None
returns-in-None c =
    λ ps s cells.
    let none = rw c.place_in-opener.ensures at (held_none _ (sym c.mate_at.ensures ∙ c.in-None.is)) in
    record {
      alone = λ e. rw c.place_in-opener.ensures at c.job_at-one.ensures;
      paired = λ n. absurd (n none);
    }
