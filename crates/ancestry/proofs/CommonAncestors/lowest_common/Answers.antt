-- It is the smallest of the two and of the parents between.
use Rattle.std.proofs.Common.{◌≡◌, ◌+◌, min, refl, arith, ◌∙◌, rules}
use Rattle.ancestry.proofs.Common.{smallest_common}
use Rattle.ancestry.proofs.Rows.{leaf_read}
use Rattle.ancestry.proofs.CommonAncestors.lowest_common.Goals as goal

pub smallest_parent-requires : goal.smallest_parent-requires
smallest_parent-requires c =
    let q = c.requires in
    let first = leaf_read _ _ q.1.spanned _ _ q.2 c.first_leaf-first.ensures.value in
    let second = leaf_read _ _ q.1.spanned _ _ q.3 c.first_leaf-second.ensures.value in
    (_, q.1, omega arith, omega (arith, first.1, second.1))

pub returns : goal.returns
returns c = λ ps s hx hy.
    let first = leaf_read _ _ s.spanned _ _ hx c.first_leaf-first.ensures.value in
    let second = leaf_read _ _ s.spanned _ _ hy c.first_leaf-second.ensures.value in
    let between = c.smallest_parent.ensures ps s (omega arith) (omega (arith, first.1, second.1)) in
    let two : c.min.result.0 ≡ min c.args.x.0 c.args.y.0 = search rules in
    let three : c.min-2.result.0 ≡ min c.min.result.0 c.smallest_parent.result.0 = search rules in
    smallest_common ps s.spanned.tree _ _ (c.min-from.result + 1) (c.max-to.result + 1) _ hx hy (omega (arith, first.0, second.0)) (omega (arith, first.0, second.0)) (three ∙ rw (two, between) refl)
