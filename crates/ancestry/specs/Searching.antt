-- What lowest common ancestors are found by, as one value.
use Rattle.std.specs.Prelude.{ℕ, List}
use Rattle.ancestry.specs.declared.CommonAncestors.{CommonAncestors}
use Rattle.ancestry.specs.SparseTable.{Searchable}

-- its tree is settled, and its minima are those of the tree
abbrev pub SearchableBy : List ℕ → CommonAncestors → Type 0
SearchableBy ps common = Searchable ps common.tree.now common.minima.now
