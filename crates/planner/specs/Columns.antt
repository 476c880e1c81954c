-- The table that lent columns hold.
use Rattle.model.specs.Jobs.{Table, table_of}
use Rattle.planner.specs.declared.Columns.{Columns}

abbrev pub table_in : Columns → Table
table_in c = table_of c.parents.now c.tops.now c.bottoms.now c.marks.now c.windows.now
