-- `frame::short_frame` meets its contract: of the lines that end after 6 bytes those of kind 1 with a right field are frames.
use mathlib.Core.Path.{◌≡◌}
use native.Mathlib.Omega.{arith}
use lib.ListN.{get_or}
use borrow.Author.Tests.{ne_eqb}
use Rattle.frame.proofs.Frames.{short_wrong, short_right}
use Rattle.frame.proofs.short_frame.Goals as goal

pub returns-in_err-parent : goal.returns-in_err-parent
returns-in_err-parent c = rw (c.from_residual.ensures, short_wrong _ c.requires c.in_err-parent.ensures)

pub returns-in-48 : goal.returns-in-48
returns-in-48 c =
    let zero : get_or c.args.s.now 0 0 ≡ 48 = omega arith in
    let kind : get_or c.args.s.now 1 0 ≡ 49 = omega arith in
    rw (short_right _ c.requires c.in_ok-parent.ensures, zero, kind)

pub returns-in_default-2 : goal.returns-in_default-2
returns-in_default-2 c =
    let zero : get_or c.args.s.now 0 0 ≡ 48 = omega arith in
    rw (short_right _ c.requires c.in_ok-parent.ensures, zero, ne_eqb (get_or c.args.s.now 1 0) 49 (λ e. omega arith))

pub returns-in_default-3 : goal.returns-in_default-3
returns-in_default-3 c = rw (short_right _ c.requires c.in_ok-parent.ensures, ne_eqb (get_or c.args.s.now 0 0) 48 (λ e. omega arith))
