-- A number of 64 digits has at most 64 leading zeros.
use borrow.Author.Rules.{rules}
use Rattle.sweep_laws.specs.Levels.{levels_digits}
use Rattle.segment_tree.proofs.Shelf.levels.Goals as goal

pub returns : goal.returns
returns c = levels_digits _ c.requires (search rules)
