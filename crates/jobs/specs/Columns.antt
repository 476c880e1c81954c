-- The table that columns of jobs hold, with the parents of its layouts.
use Rattle.std.specs.Prelude.{ℕ, ◌≡◌, List, length}
use Rattle.model.specs.Jobs.{Table, table_of}
use Rattle.jobs.specs.declared.JobColumns.{JobColumns}

abbrev pub table_with : List ℕ → JobColumns → Table
table_with ps c = table_of ps c.tops.now c.bottoms.now c.marks.now c.windows.now

-- how many jobs they have
abbrev pub jobs_in : JobColumns → ℕ
jobs_in c = length c.tops.now

-- the columns lent are still the ones that are written to, with as many jobs, and bottoms and windows are as they were
pub record SameColumns (c c' : JobColumns) : Type 0 where
  pub same_tops : c'.tops.ghost_name ≡ c.tops.ghost_name
  pub same_marks : c'.marks.ghost_name ≡ c.marks.ghost_name
  pub jobs_are : jobs_in c' ≡ jobs_in c
  pub marks_length : length c'.marks.now ≡ length c.marks.now
  pub bottoms_are : c'.bottoms ≡ c.bottoms
  pub windows_are : c'.windows ≡ c.windows
