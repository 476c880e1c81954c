-- The cells of the tree are cleared, and those past them untouched.
use Rattle.sweep_laws.specs.Nodes.{cleared_all}
use Prim.Native.Nat.{◌*◌}
use borrow.Author.Rules.{rules}
use native.Mathlib.Omega.{arith}
use Rattle.segment_tree.proofs.Shape.clear.Goals as goal

pub returns : goal.returns
returns c = cleared_all _ _ _ c.requires (2 * c.args.self.width) _ (omega arith) (record { within = omega arith; filled = search rules })
