-- What is promised of a table's lent buffers: that they are the same afterwards, and what they hold when nothing in them is used.
use Rattle.std.specs.Prelude.{ℕ, ◌≡◌, List, length, replicate}
use Rattle.std.proofs.Common.{◌∙◌}
use Rattle.std.specs.Borrow.{MutBor}
use Rattle.model.specs.Tree.{FFFF}
use Rattle.buffers.specs.declared.TableBuffers.{TableBuffers}

-- the same cells are lent, as many of them
pub record SameCells (c c' : MutBor (List ℕ)) : Type 0 where
  pub same : c'.ghost_name ≡ c.ghost_name
  pub kept : length c'.now ≡ length c.now

-- the same buffers are lent
pub record SameBuffers (b b' : TableBuffers) : Type 0 where
  pub parents_same : SameCells b.parents b'.parents
  pub tops_same : SameCells b.tops b'.tops
  pub bottoms_same : SameCells b.bottoms b'.bottoms
  pub marks_same : SameCells b.marks b'.marks
  pub windows_same : SameCells b.windows b'.windows

same_cells : {a b c : MutBor (List ℕ)} → SameCells a b → SameCells b c → SameCells a c
same_cells s t = record { same = t.same ∙ s.same; kept = t.kept ∙ s.kept }

pub same_then : {a b c : TableBuffers} → SameBuffers a b → SameBuffers b c → SameBuffers a c
same_then s t =
    record {
      parents_same = same_cells s.parents_same t.parents_same;
      tops_same = same_cells s.tops_same t.tops_same;
      bottoms_same = same_cells s.bottoms_same t.bottoms_same;
      marks_same = same_cells s.marks_same t.marks_same;
      windows_same = same_cells s.windows_same t.windows_same;
    }

-- each cell holds v
abbrev pub AllHold : ℕ → MutBor (List ℕ) → Type 0
AllHold v c = c.now ≡ replicate (length c.now) v

-- nothing is used: FFFF in number cells, 0 in marks and windows
pub record Cleared (b : TableBuffers) : Type 0 where
  pub parents_clear : AllHold FFFF b.parents
  pub tops_clear : AllHold FFFF b.tops
  pub bottoms_clear : AllHold FFFF b.bottoms
  pub marks_clear : AllHold 0 b.marks
  pub windows_clear : AllHold 0 b.windows
