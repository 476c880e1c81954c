-- `frame::windowed_frame` meets its contract: of the lines that end after 12 bytes those of kind 5 with right fields are frames.
use mathlib.Core.Path.{◌≡◌, sym, ◌∙◌}
use native.Mathlib.Omega.{arith}
use lib.ListN.{get_or}
use borrow.Author.Tests.{ne_eqb}
use Rattle.frame.proofs.Frames.{no_ends, top_wrong, bottom_wrong, window_wrong, windowed_right}
use Rattle.frame.proofs.windowed_frame.Goals as goal

pub returns-then-not-ends_after : goal.returns-then-not-ends_after
returns-then-not-ends_after c = rw (no_ends _ c.requires.0 c.requires.1 (sym c.ends_after.ensures ∙ c.if-not-ends_after.true))

pub returns-in_err-top : goal.returns-in_err-top
returns-in_err-top c =
    let ends = sym c.ends_after.ensures ∙ c.if-not-ends_after.false in
    rw (c.from_residual.ensures, top_wrong _ c.requires.0 c.requires.1 ends c.in_err-top.ensures)

pub returns-in_err-bottom : goal.returns-in_err-bottom
returns-in_err-bottom c =
    let ends = sym c.ends_after.ensures ∙ c.if-not-ends_after.false in
    rw (c.from_residual-in_err-bottom.ensures, bottom_wrong _ c.requires.0 c.requires.1 ends c.in_err-bottom.ensures)

pub returns-in_err-window : goal.returns-in_err-window
returns-in_err-window c =
    let ends = sym c.ends_after.ensures ∙ c.if-not-ends_after.false in
    rw (c.from_residual-in_err-window.ensures, window_wrong _ c.requires.0 c.requires.1 ends c.in_err-window.ensures)

pub returns-in-48 : goal.returns-in-48
returns-in-48 c =
    let ends = sym c.ends_after.ensures ∙ c.if-not-ends_after.false in
    let zero : get_or c.args.s.now 0 0 ≡ 48 = omega arith in
    let kind : get_or c.args.s.now 1 0 ≡ 53 = omega arith in
    rw (windowed_right _ c.requires.0 c.requires.1 ends c.in_ok-top.ensures c.in_ok-bottom.ensures c.in_ok-window.ensures, zero, kind)

pub returns-in_default-2 : goal.returns-in_default-2
returns-in_default-2 c =
    let ends = sym c.ends_after.ensures ∙ c.if-not-ends_after.false in
    let zero : get_or c.args.s.now 0 0 ≡ 48 = omega arith in
    rw (
      windowed_right _ c.requires.0 c.requires.1 ends c.in_ok-top.ensures c.in_ok-bottom.ensures c.in_ok-window.ensures,
      zero,
      ne_eqb (get_or c.args.s.now 1 0) 53 (λ e. omega arith),
    )

pub returns-in_default-3 : goal.returns-in_default-3
returns-in_default-3 c =
    let ends = sym c.ends_after.ensures ∙ c.if-not-ends_after.false in
    rw (
      windowed_right _ c.requires.0 c.requires.1 ends c.in_ok-top.ensures c.in_ok-bottom.ensures c.in_ok-window.ensures,
      ne_eqb (get_or c.args.s.now 0 0) 48 (λ e. omega arith),
    )
