use Rattle.std.proofs.Common.{◌≤◌, length}
use Rattle.input.proofs.read_full.Given as goal

-- no more is held than there is room for
abbrev pub invariant-loop : goal.invariant-loop
invariant-loop g l = l.filled ≤ length l.buffer
