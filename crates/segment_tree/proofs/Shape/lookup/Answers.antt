-- An empty span holds nothing, and neither does one whose first place that can wait there comes after the last; where the first stands in the span it is the smallest; else the
-- span is searched.
use mathlib.Core.Path.{◌≡◌, sym, ap, ◌∙◌}
use native.Mathlib.Omega.{arith}
use Prim.Native.Nat.{◌+◌, ◌<◌}
use lib.ListN.{get_or}
use Rattle.std.proofs.lemmas.Grind.{common_steps}
use Rattle.model.specs.Cells.{place_in}
use Rattle.schedule.specs.Places.{none_held, one_held}
use Rattle.sweep_laws.specs.EntryLaws.{smallest_none, smallest_empty, smallest_first}
use Rattle.segment_tree.proofs.Shape.lookup.Goals as goal

pub returns-then-to-from : goal.returns-then-to-from
returns-then-to-from c = sym (none_held _ (smallest_empty _ _ _ c.if-to-from.true))

pub returns-then-lt : goal.returns-then-lt
returns-then-lt c =
    let none : c.args.candidates.last.0 < c.args.candidates.first.0 = grind (arith, common_steps) in
    sym (none_held _ (smallest_none _ _ _ (λ e m a b. omega (arith, c.requires.no_smaller e m a b, c.requires.no_larger e m a b, none))))

pub returns-then-eq : goal.returns-then-eq
returns-then-eq c =
    let held : get_or c.args.nodes.now (c.args.self.width + c.args.slot) 0 ≡ c.args.candidates.first.0 = grind (arith, common_steps) in
    let least = smallest_first _ _ c.requires.tree.room _ _ _ _ c.if-from-slot.true c.if-slot-to.true c.requires.inside c.requires.some_place c.requires.no_smaller held in
    sym (ap place_in (sym least) ∙ one_held _ (omega (arith, c.requires.some_place)))
