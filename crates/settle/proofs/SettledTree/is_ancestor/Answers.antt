-- `settle::SettledTree::is_ancestor` meets its contract: left of the span, right of it, or by depth inside it.
use Rattle.std.proofs.Common.{arith}
use Rattle.std.proofs.lemmas.Grind.{common_steps}
use Rattle.settle.specs.Spanned.{spanned_ancestor}
use Rattle.settle.proofs.SettledTree.is_ancestor.Goals as goal

pub returns-then-leaf-last_leaf : goal.returns-then-leaf-last_leaf
returns-then-leaf-last_leaf c = λ ps s hu hx. grind (arith, common_steps, spanned_ancestor ps _ s _ _ hu hx)

pub returns-else-leaf-last_leaf : goal.returns-else-leaf-last_leaf
returns-else-leaf-last_leaf c = λ ps s hu hx. grind (arith, common_steps, spanned_ancestor ps _ s _ _ hu hx)
