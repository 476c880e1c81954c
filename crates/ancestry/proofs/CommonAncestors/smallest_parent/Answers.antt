-- Two blocks cover the leaves, and both are in one row.
use Rattle.std.specs.Int.Count.{count_leading_zeros}
use Rattle.std.proofs.Common.{ℕ, ◌≡◌, ◌+◌, ◌-◌, ◌*◌, ◌/◌, ◌%◌, ◌^◌, min, get_or, arith, ◌∙◌, rules}
use Rattle.ancestry.proofs.Rows.{bits_small, block_is, block_fits, row_fits, two_blocks}
use Rattle.ancestry.proofs.CommonAncestors.smallest_parent.Goals as goal

pub overflow_shl-block : goal.overflow_shl-block
overflow_shl-block c = let q = c.requires in bits_small _ _ _ q.1 _ _ q.2 q.3

pub bounds-self-row : goal.bounds-self-row
bounds-self-row c = let q = c.requires in rw (c.stride_of.ensures.value _ q.1.spanned) (omega (arith, row_fits _ _ _ q.1 _ _ q.2 q.3))

pub overflow_sub-right : goal.overflow_sub-right
overflow_sub-right c = let q = c.requires in omega (arith, block_is _ _ _ q.1 _ _ q.2 q.3, block_fits _ _ _ q.1 _ _ q.2 q.3)

pub bounds-self-row-2 : goal.bounds-self-row-2
bounds-self-row-2 c = let q = c.requires in rw (c.stride_of.ensures.value _ q.1.spanned) (omega (arith, row_fits _ _ _ q.1 _ _ q.2 q.3))

pub returns : goal.returns
returns c = λ ps s order inside.
    let bits : ℕ = 64 - count_leading_zeros 64 (c.args.to - c.args.from) in
    let row : ℕ = bits * c.stride_of.result in
    let minima = c.args.self.now.minima.now in
    let lesser : c.min.result.0 ≡ min (get_or minima (row + c.args.from) 0) (get_or minima (row + c.args.to - 1 * 2 ^ bits % 2 ^ 64 / 2) 0) = search rules in
    lesser ∙ rw (c.stride_of.ensures.value _ s.spanned, block_is _ _ _ s _ _ order inside) (two_blocks _ _ _ s _ _ order inside)
