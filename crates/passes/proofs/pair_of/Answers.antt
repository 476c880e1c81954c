-- `passes::pair_of` meets its contract: the bottoms are layouts.
use mathlib.Core.Path.{refl}
use Rattle.passes.proofs.pair_of.Goals as goal

pub lowest_common-layout-requires : goal.lowest_common-layout-requires
lowest_common-layout-requires c = (c.requires.0, c.requires.1, rw c.layout_at-first.ensures c.requires.2.one_bottom, rw c.layout_at-second.ensures c.requires.2.other_bottom)

pub returns : goal.returns
returns c =
    λ ps s cells.
    (refl, refl, rw (c.layout_at-first.ensures, c.layout_at-second.ensures) at (c.lowest_common-layout.ensures ps s (rw c.layout_at-first.ensures cells.one_bottom) (rw c.layout_at-second.ensures cells.other_bottom)))
