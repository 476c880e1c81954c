-- What handing back promises: the partners, upper and printed layouts of all jobs.
pub mod HandBack
