-- `table::answer` meets its contract: by the check, a wrong job or what stands after the end.
use mathlib.Core.Path.{refl, sym}
use Rattle.model.specs.Table.{unless_refused, on_its_line}
use Rattle.table.proofs.answer.Goals as goal

pub line_of_job-requires : goal.line_of_job-requires
line_of_job-requires c =
    let own = c.requires _ c.in-Err.is in
    record { job_nonzero = own.0; job_bound = own.1 }

pub returns-in-Err : goal.returns-in-Err
unfolding unless_refused on_its_line
returns-in-Err c = λ tb n m. rw (c.in-Err.is, c.line_of_job.ensures) refl

pub returns-in-Some : goal.returns-in-Some
unfolding unless_refused on_its_line
returns-in-Some c = λ tb n m. rw (c.in_default.is, c.in-Some.is) refl

pub returns-in-None : goal.returns-in-None
unfolding unless_refused on_its_line
returns-in-None c = λ tb n m. rw (c.in_default.is, c.in-None.is) (refl, sym n, sym m)
