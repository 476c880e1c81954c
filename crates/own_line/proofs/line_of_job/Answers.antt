-- `own_line::line_of_job` meets its contract: line by line it looks for the same job.
use mathlib.Core.Path.{◌≡◌, sym, ◌∙◌}
use lib.ListN.{drop}
use Rattle.frame.specs.Fields.{ends_after}
use Rattle.frame.specs.Lines.{rest, job_width}
use Rattle.own_line.specs.OwnLine.{own_line, job_wide, from_start, past_layout, found, past_job, bytes_left}
use native.Mathlib.Omega.{arith}
use Rattle.own_line.proofs.line_of_job.Goals as goal

pub loop-at-init : goal.loop-at-init
loop-at-init c = from_start _ _

pub loop-at-preserved-then-ends_after : goal.loop-at-preserved-then-ends_after
loop-at-preserved-then-ends_after c =
    let told : c.ends_after.result ≡ ends_after 6 (drop c.loop-at.at c.args.bytes.now) = rw (← rest c.args.bytes.now c.loop-at.at) c.ends_after.ensures in
    past_layout _ _ _ _ _ c.requires.job_nonzero c.loop-at.invariant (sym told ∙ c.if-ends_after.true)

pub overflow_cast-result : goal.overflow_cast-result
overflow_cast-result c =
    let told : c.ends_after.result ≡ ends_after 6 (drop c.loop-at.at c.args.bytes.now) = rw (← rest c.args.bytes.now c.loop-at.at) c.ends_after.ensures in
    let its_line : own_line c.args.bytes.now c.args.job.0
    ≡ c.loop-at.line = found _ _ _ _ _ c.requires.job_nonzero c.loop-at.invariant (sym told ∙ c.if-ends_after.false) c.if-before-eq0.true in
    omega (arith, its_line, c.requires.job_bound)

pub returns-then-before-eq0 : goal.returns-then-before-eq0
returns-then-before-eq0 c =
    let told : c.ends_after.result ≡ ends_after 6 (drop c.loop-at.at c.args.bytes.now) = rw (← rest c.args.bytes.now c.loop-at.at) c.ends_after.ensures in
    let its_line : own_line c.args.bytes.now c.args.job.0
    ≡ c.loop-at.line = found _ _ _ _ _ c.requires.job_nonzero c.loop-at.invariant (sym told ∙ c.if-ends_after.false) c.if-before-eq0.true in
    sym its_line

pub overflow_add-at-else-before-eq0 : goal.overflow_add-at-else-before-eq0
overflow_add-at-else-before-eq0 c =
    let wide : c.job_width-at.result ≡ job_width (drop c.loop-at.at c.args.bytes.now) = rw (← rest c.args.bytes.now c.loop-at.at) c.job_width-at.ensures in
    omega (arith, wide, job_wide (drop c.loop-at.at c.args.bytes.now))

pub loop-at-smaller : goal.loop-at-smaller
loop-at-smaller c =
    let wide : c.job_width-at.result ≡ job_width (drop c.loop-at.at c.args.bytes.now) = rw (← rest c.args.bytes.now c.loop-at.at) c.job_width-at.ensures in
    omega (arith, wide, job_wide (drop c.loop-at.at c.args.bytes.now))

pub loop-at-preserved : goal.loop-at-preserved
loop-at-preserved c =
    let told : c.ends_after.result ≡ ends_after 6 (drop c.loop-at.at c.args.bytes.now) = rw (← rest c.args.bytes.now c.loop-at.at) c.ends_after.ensures in
    let wide : c.job_width-at.result ≡ job_width (drop c.loop-at.at c.args.bytes.now) = rw (← rest c.args.bytes.now c.loop-at.at) c.job_width-at.ensures in
    let no_layout = sym told ∙ c.if-ends_after.false in
    rw wide (past_job _ _ _ _ _ c.requires.job_nonzero c.loop-at.invariant no_layout c.if-before-eq0.false)

pub returns : goal.returns
returns c = absurd (bytes_left _ _ _ _ _ c.requires.job_nonzero c.loop-at.invariant c.loop-at-test.false)
