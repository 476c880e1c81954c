-- `shared_stretch` answers the stretch of the lists as dropped: each is the part of its list from the cell on that `dropped` names.
use Prim.Native.Nat.{ℕ, ◌+◌, ◌*◌, ◌≤◌}
use mathlib.Core.Path.{◌≡◌, ap}
use native.Mathlib.Omega.{arith}
use borrow.Author.Rules.{part_to_end}
use lib.ListN.{length}
use Rattle.stretch.proofs.Laws.{dropped_le, outcome_dropped}
use Rattle.stretch.proofs.shared_stretch.Goals as goal

pub offset_bounds-first-first_dropped : goal.offset_bounds-first-first_dropped
offset_bounds-first-first_dropped c =
    -- what is dropped is a part of each list
    let first_within : c.dropped-first_dropped.result ≤ length c.args.first.now = rw c.dropped-first_dropped.ensures (dropped_le c.args.first.now) in
    omega (arith, first_within)

pub slice_bounds-stretch_of-count : goal.slice_bounds-stretch_of-count
slice_bounds-stretch_of-count c =
    let first_within : c.dropped-first_dropped.result ≤ length c.args.first.now = rw c.dropped-first_dropped.ensures (dropped_le c.args.first.now) in
    first_within

pub slice_bounds-stretch_of-start : goal.slice_bounds-stretch_of-start
slice_bounds-stretch_of-start c =
    let first_within : c.dropped-first_dropped.result ≤ length c.args.first.now = rw c.dropped-first_dropped.ensures (dropped_le c.args.first.now) in
    first_within

pub offset_bounds-second-second_dropped : goal.offset_bounds-second-second_dropped
offset_bounds-second-second_dropped c =
    let second_within : c.dropped-second_dropped.result ≤ length c.args.second.now = rw c.dropped-second_dropped.ensures (dropped_le c.args.second.now) in
    omega (arith, second_within)

pub slice_bounds-stretch_of-count-2 : goal.slice_bounds-stretch_of-count-2
slice_bounds-stretch_of-count-2 c =
    let second_within : c.dropped-second_dropped.result ≤ length c.args.second.now = rw c.dropped-second_dropped.ensures (dropped_le c.args.second.now) in
    second_within

pub slice_bounds-stretch_of-start-2 : goal.slice_bounds-stretch_of-start-2
slice_bounds-stretch_of-start-2 c =
    let second_within : c.dropped-second_dropped.result ≤ length c.args.second.now = rw c.dropped-second_dropped.ensures (dropped_le c.args.second.now) in
    second_within

-- a cell has two bytes
doubled : (p : ℕ × ℕ) (n : ℕ) → ◌≡◌ {A = ℕ × ℕ} (p.0, n * 2 + p.1) (p.0, p.1 + 2 * n)
doubled p n = ap (λ (k : ℕ). (p.0, k)) (omega arith)

pub returns : goal.returns
returns c =
    let args = c.args in
    outcome_dropped args.first args.second _ _ _ c.dropped-first_dropped.result c.dropped-second_dropped.result c.dropped-first_dropped.ensures c.dropped-second_dropped.ensures
    (part_to_end args.first.now c.dropped-first_dropped.result)
    (doubled args.first.ref_ptr c.dropped-first_dropped.result)
    (part_to_end args.second.now c.dropped-second_dropped.result)
    (doubled args.second.ref_ptr c.dropped-second_dropped.result)
    c.stretch_of.ensures
