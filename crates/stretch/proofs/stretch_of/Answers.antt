-- `stretch_of` answers the stretch: a count above 0 says that the first number of its list stands in the other, so the two counts pick
-- the case of the definition, and each answer is cut from the list that the case names.
use Prim.Native.Nat.{◌<◌}
use mathlib.Core.Path.{◌≡◌, refl, sym, ap, ◌∙◌}
use native.Mathlib.Omega.{arith}
use Rattle.model.specs.Stretch.{leading, of_first, of_second}
use Rattle.stretch.specs.StretchLaws.{stretch_first, stretch_second, stretch_none}
use Rattle.stretch.proofs.Laws.{leading_part, outcome}
use Rattle.stretch.proofs.stretch_of.Goals as goal

pub slice_bounds-result-end : goal.slice_bounds-result-end
slice_bounds-result-end c =
    let args = c.args in
    leading_part args.first.now args.second.now c.leading-count.result c.leading-count.ensures

-- the first list's first number stands in the second
pub returns-then-count-gt0 : goal.returns-then-count-gt0
returns-then-count-gt0 c =
    let args = c.args in
    let count = c.leading-count.ensures in
    let some : 0 < leading args.first.now args.second.now = omega (arith, count, c.if-count-gt0.true) in
    outcome args.first args.second _ (of_first c.leading-count.result)
    (stretch_first args.first.now args.second.now some ∙ ap of_first (sym count))
    refl
    refl

pub slice_bounds-result-end-then-exchanged-gt0 : goal.slice_bounds-result-end-then-exchanged-gt0
slice_bounds-result-end-then-exchanged-gt0 c =
    let args = c.args in
    leading_part args.second.now args.first.now c.leading-exchanged.result c.leading-exchanged.ensures

-- only the second list's first number stands in the other
pub returns-then-exchanged-gt0 : goal.returns-then-exchanged-gt0
returns-then-exchanged-gt0 c =
    let args = c.args in
    let count = c.leading-exchanged.ensures in
    let none : leading args.first.now args.second.now ≡ 0 = omega (arith, c.leading-count.ensures, c.if-count-gt0.false) in
    let some : 0 < leading args.second.now args.first.now = omega (arith, count, c.if-exchanged-gt0.true) in
    outcome args.first args.second _ (of_second c.leading-exchanged.result)
    (stretch_second args.first.now args.second.now none some ∙ ap of_second (sym count))
    refl
    refl

-- neither does
pub returns : goal.returns
returns c =
    let args = c.args in
    let none : leading args.first.now args.second.now ≡ 0 = omega (arith, c.leading-count.ensures, c.if-count-gt0.false) in
    let neither : leading args.second.now args.first.now ≡ 0 = omega (arith, c.leading-exchanged.ensures, c.if-exchanged-gt0.false) in
    outcome args.first args.second _ (of_first 0) (stretch_none args.first.now args.second.now none neither) refl refl
