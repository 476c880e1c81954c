-- What is taken in, with the nodes that are left, has the smallest place of all.
use Prim.Native.Nat.{ℕ, zero, suc, ◌+◌, ◌-◌, ◌<◌, ◌≤◌, min}
use mathlib.Core.Path.{◌≡◌, refl, sym, ◌∙◌}
use mathlib.Core.List.{List}
use native.Mathlib.Omega.{arith}
use Rattle.std.specs.List.{fold}
use Rattle.std.proofs.Common.{rules, slice_range, take, drop, drop-cons, length, get_or}
use Rattle.model.specs.Tree.{FFFF}
use Rattle.model.specs.declared.Rank.{Rank}
use Rattle.std.proofs.lemmas.Fn.{fold_over, fronts, slice_gives}
use Rattle.std.proofs.lemmas.List.Sums.{fold_push}
use Rattle.laws.specs.Least.{least_of}
use Rattle.sweep_laws.specs.NodeSpans.{node_at}
use Rattle.segment_tree.proofs.level_minimum.Goals as goal

-- the least of cells in a row is told one after the other
folded : (n at best : ℕ) (nodes : List ℕ) → at + n ≤ length nodes → best ≤ FFFF → fold min best (take n (drop at nodes)) ≡ min best (least_of (node_at nodes) at n)
unfolding least_of
folded zero at best nodes inside low = omega arith
folded (suc n) at best nodes inside low =
    let below : at < length nodes = omega arith in
    rw (drop-cons nodes at 0) (folded n (suc at) (min best (get_or nodes at 0)) nodes (omega arith) (omega arith) ∙ omega arith)

pub returns : goal.returns
returns c =
    let part = slice_range c.args.nodes.now c.args.left c.args.right in
    let given : c.iter.result.rest.now ≡ part = search rules in
    let told : c.fold.result.0 ≡ fold min c.args.least.0 c.iter.result.rest.now = fold_over fronts (λ y. y.now) _ (λ (ys : List ℕ) (a : Rank). a.0 ≡ fold min c.args.least.0 ys) _
    (λ ys a x b f' j k. let one : b.0 ≡ min a.0 x.now = search rules in (one ∙ rw j (sym (fold_push min c.args.least.0 ys x.now)), search rules))
    c.iter.result _ _ _ (slice_gives c.iter.result) refl c.fold.ensures.ran in
    told ∙ rw given (folded (c.args.right - c.args.left) c.args.left c.args.least.0 c.args.nodes.now (omega arith) (omega arith))
