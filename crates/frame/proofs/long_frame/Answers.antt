-- `frame::long_frame` meets its contract: of the lines that end after 10 bytes those of kind 2, 4 and 3 with right fields are frames.
use mathlib.Core.Path.{◌≡◌}
use native.Mathlib.Omega.{arith}
use lib.ListN.{get_or}
use borrow.Author.Tests.{ne_eqb}
use Rattle.frame.proofs.Frames.{first_wrong, second_wrong, long_right}
use Rattle.frame.proofs.long_frame.Goals as goal

pub returns-in_err-first : goal.returns-in_err-first
returns-in_err-first c = rw (c.from_residual.ensures, first_wrong _ c.requires.0 c.requires.1 c.in_err-first.ensures)

pub returns-in_err-second : goal.returns-in_err-second
returns-in_err-second c = rw (c.from_residual-in_err-second.ensures, second_wrong _ c.requires.0 c.requires.1 c.in_err-second.ensures)

pub returns-in-48 : goal.returns-in-48
returns-in-48 c =
    let zero : get_or c.args.s.now 0 0 ≡ 48 = omega arith in
    let kind : get_or c.args.s.now 1 0 ≡ 50 = omega arith in
    rw (long_right _ c.requires.0 c.requires.1 c.in_ok-first.ensures c.in_ok-second.ensures, zero, kind)

pub returns-in-48-2 : goal.returns-in-48-2
returns-in-48-2 c =
    let zero : get_or c.args.s.now 0 0 ≡ 48 = omega arith in
    let kind : get_or c.args.s.now 1 0 ≡ 52 = omega arith in
    rw (long_right _ c.requires.0 c.requires.1 c.in_ok-first.ensures c.in_ok-second.ensures, zero, kind)

pub returns-in-48-3 : goal.returns-in-48-3
returns-in-48-3 c =
    let zero : get_or c.args.s.now 0 0 ≡ 48 = omega arith in
    let kind : get_or c.args.s.now 1 0 ≡ 51 = omega arith in
    rw (c.from.ensures, c.from-in-48-3.ensures, long_right _ c.requires.0 c.requires.1 c.in_ok-first.ensures c.in_ok-second.ensures, zero, kind)

pub returns-in_default-2 : goal.returns-in_default-2
returns-in_default-2 c =
    let kind = get_or c.args.s.now 1 0 in
    let zero : get_or c.args.s.now 0 0 ≡ 48 = omega arith in
    rw (
      long_right _ c.requires.0 c.requires.1 c.in_ok-first.ensures c.in_ok-second.ensures,
      zero,
      ne_eqb kind 50 (λ e. omega arith),
      ne_eqb kind 52 (λ e. omega arith),
      ne_eqb kind 51 (λ e. omega arith),
    )

pub returns-in_default-3 : goal.returns-in_default-3
returns-in_default-3 c =
    rw (
      long_right _ c.requires.0 c.requires.1 c.in_ok-first.ensures c.in_ok-second.ensures,
      ne_eqb (get_or c.args.s.now 0 0) 48 (λ e. omega arith),
    )
