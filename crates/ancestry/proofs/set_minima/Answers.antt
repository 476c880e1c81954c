-- The loop has set all rows up to one, and goes on as long as the next has blocks shorter than a row.
use Rattle.std.proofs.Common.{suc, arith}
use Rattle.ancestry.proofs.Rows.{rows_first, next_room, rows_more, rows_all}
use Rattle.ancestry.proofs.set_minima.Goals as goal

pub loop-half-init : goal.loop-half-init
loop-half-init c = let is = c.stride_of-stride.ensures.value _ c.requires.spanned in (is, omega arith, omega (arith, is), 1, rw is (rows_first _ _ c.set_parents.ensures))

pub set_row-requires-clause-stride_in_bounds : goal.set_row-requires-clause-stride_in_bounds
set_row-requires-clause-stride_in_bounds c = let i = c.loop-half.invariant in rw i.0 (next_room _ _ _ _ _ i.4 (omega (arith, i.0)))

pub overflow_add-at : goal.overflow_add-at
overflow_add-at c = let i = c.loop-half.invariant in omega (arith, i.0, next_room _ _ _ _ _ i.4 (omega (arith, i.0)))

pub loop-half-preserved : goal.loop-half-preserved
loop-half-preserved c =
    let i = c.loop-half.invariant in
    (i.0, omega arith, omega arith, suc i.3, rw i.0 (rows_more _ _ _ _ _ i.4 _ (omega (arith, i.0)) (rw i.0 at c.set_row.ensures)))

pub returns : goal.returns
returns c = let i = c.loop-half.invariant in rows_all _ _ _ _ _ i.4 (omega (arith, i.0))
