-- A law of the jobs' check: where no job is wrong, the jobs are accepted.
use Rattle.std.proofs.Common.{◌≡◌, true, refl, Result, Ok, Err}
use Rattle.std.specs.Result.{is_ok}
use Rattle.model.specs.Verdict.{accepted}
use Rattle.jobs.specs.declared.WrongJob.{WrongJob}
use Rattle.jobs.specs.Checks.{check_verdict}

pub none_wrong : (r : Result Unit WrongJob) → true ≡ is_ok r → check_verdict r ≡ accepted
none_wrong (Ok done) e = refl
none_wrong (Err w) e = cc
