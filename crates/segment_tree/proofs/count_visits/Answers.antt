-- The nodes with an end strictly inside are those with the right one inside, and those with the left one inside and the right one in another.
use Prim.Native.Nat.{ℕ, ◌+◌, ◌<◌}
use mathlib.Core.Path.{◌≡◌}
use native.Mathlib.Omega.{arith}
use Rattle.sweep_laws.specs.VisitCount.{levels_inside, levels_apart, Countable}
use Rattle.sweep_laws.specs.SharedLevels.{visits_counted, inside_few}
use Rattle.segment_tree.proofs.count_visits.Goals as goal

-- both counts are of fewer levels than a number has digits
few_inside : (levels from to inside apart : ℕ) → Countable levels from to → inside ≡ levels_inside 0 levels to → apart ≡ levels_apart levels from to → inside + apart < 126
few_inside levels from to inside apart p is_inside is_apart = omega (arith, (visits_counted _ _ _ p).left_few, inside_few levels to, is_inside, is_apart, p.few)

pub levels_inside-requires : goal.levels_inside-requires
levels_inside-requires c = (visits_counted _ _ _ c.requires).right_zeros

pub overflow_add-inside : goal.overflow_add-inside
overflow_add-inside c = omega (arith, few_inside _ _ _ _ _ c.requires c.levels_inside.ensures c.levels_apart.ensures)

pub overflow_mul-result : goal.overflow_mul-result
overflow_mul-result c = omega (arith, few_inside _ _ _ _ _ c.requires c.levels_inside.ensures c.levels_apart.ensures)

pub overflow_add-result : goal.overflow_add-result
overflow_add-result c = omega (arith, few_inside _ _ _ _ _ c.requires c.levels_inside.ensures c.levels_apart.ensures)

pub returns : goal.returns
returns c = omega (arith, (visits_counted _ _ _ c.requires).visits_are, c.levels_inside.ensures, c.levels_apart.ensures)
