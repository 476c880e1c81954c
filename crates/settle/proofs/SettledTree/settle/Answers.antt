-- `settle::SettledTree::settle` meets its contract: the ways up are set, and numbering from layout 0 comes to every layout.
use Rattle.settle.proofs.Outcome.{unlinked, root_numberable, tree_spanned}
use Rattle.settle.proofs.SettledTree.settle.Goals as goal

pub link_children-requires : goal.link_children-requires
link_children-requires c = record {
  tree = c.requires;
  unlinked = unlinked _ c.requires.small;
}

pub number-requires : goal.number-requires
number-requires c = (_, root_numberable _ _ c.requires c.link_children.ensures)

pub returns : goal.returns
returns c =
    let numberable = root_numberable _ _ c.requires c.link_children.ensures in
    tree_spanned _ c.requires _ _ c.set_ways_up.ensures _ (c.number.ensures _ numberable)
