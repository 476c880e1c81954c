-- What is asked and promised of the lent buffers that a table is read into.
use Rattle.std.specs.Prelude.{ℕ, ◌≡◌, true, false, List, length, Result, is_err}
use Rattle.model.specs.Verdict.{Verdict, accepted}
use Rattle.model.specs.Table.{Reading, buffers_verdict}
use Rattle.model.specs.Outcomes.{ReadAs}
use Rattle.model.specs.declared.Counts.{Counts}
use Rattle.model.specs.declared.Refusal.{Refusal}
use Rattle.buffers.specs.Lent.{SameBuffers, AllHold, Cleared}
use Rattle.buffers.specs.declared.TableBuffers.{TableBuffers}
use Rattle.std.specs.Borrow.{MutBor}
use Rattle.reading.specs.Steps.{Unused, Spare}
use Rattle.reading.specs.Lent.{ReadyFor}
use Rattle.table.specs.Whole.{LinesOutcome, BuffersLong, Kept, filled_unused, cleared_ready, all_read, refused_clear}
use Rattle.settle.specs.declared.SettledTree.{SettledTree}

-- they are as long as asked for
abbrev pub LongBuffers : TableBuffers → Type 0
LongBuffers b = BuffersLong b.parents.now b.tops.now b.bottoms.now b.marks.now b.windows.now

-- the verdict on their sizes
abbrev pub sizes_verdict : TableBuffers → Verdict
sizes_verdict b = buffers_verdict (length b.parents.now) (length b.tops.now) (length b.bottoms.now) (length b.marks.now) (length b.windows.now)

-- the lines are read into them
abbrev pub LinesInto : Reading → TableBuffers → SettledTree → Result Counts Refusal → Type 0
LinesInto t b tree r = LinesOutcome t b.parents.now b.tops.now b.bottoms.now b.marks.now b.windows.now tree r

-- a table is read into them, as long as they are
abbrev pub TableInto : Reading → TableBuffers → Result Counts Refusal → TableBuffers → Type 0
TableInto t b r b' = ReadAs accepted t b.parents.now b.tops.now b.bottoms.now b.marks.now b.windows.now r b'.parents.now b'.tops.now b'.bottoms.now b'.marks.now b'.windows.now

-- cells that all hold v are not used
all_unused : (v : ℕ) (c : MutBor (List ℕ)) → AllHold v c → Unused v 0 c.now
all_unused v c h = filled_unused v c.now c.now h

clear_spare : (b : TableBuffers) → Cleared b → Spare b.parents.now b.tops.now b.bottoms.now b.marks.now b.windows.now 0 0
clear_spare b c =
    record {
      parents_spare = all_unused _ b.parents c.parents_clear;
      tops_spare = all_unused _ b.tops c.tops_clear;
      bottoms_spare = all_unused _ b.bottoms c.bottoms_clear;
      marks_spare = all_unused _ b.marks c.marks_clear;
      windows_spare = all_unused _ b.windows c.windows_clear;
    }

kept : {b b' : TableBuffers} → SameBuffers b b'
    → Kept b.parents.now b.tops.now b.bottoms.now b.marks.now b.windows.now b'.parents.now b'.tops.now b'.bottoms.now b'.marks.now b'.windows.now
kept s =
    record {
      parents_kept = s.parents_same.kept;
      tops_kept = s.tops_same.kept;
      bottoms_kept = s.bottoms_same.kept;
      marks_kept = s.marks_same.kept;
      windows_kept = s.windows_same.kept;
    }

-- long buffers that are cleared are ready
pub clear_ready : (bytes : List ℕ) {b b' : TableBuffers} → LongBuffers b → SameBuffers b b' → Cleared b' → ReadyFor bytes b'
clear_ready bytes {b' = b'} long s c = cleared_ready bytes _ _ _ _ _ _ _ _ _ _ long (kept s) (clear_spare b' c)

module _ (t : Reading) (tree : SettledTree) (r : Result Counts Refusal) where
  -- a table is in them
  pub table_into : {b b' : TableBuffers} → is_err r ≡ false → LinesInto t b' tree r → SameBuffers b b' → TableInto t b r b'
  table_into fine o s = all_read t _ _ _ _ _ _ _ _ _ _ tree r fine o (kept s)

  -- a refusal leaves them clear
  pub refused_into : (b₁ : TableBuffers) {b b' : TableBuffers} → is_err r ≡ true → LinesInto t b₁ tree r → Cleared b' → SameBuffers b b' → TableInto t b r b'
  refused_into b₁ {b' = b'} wrong o c s = refused_clear t _ _ _ _ _ _ _ _ _ _ b₁.parents.now b₁.tops.now b₁.bottoms.now b₁.marks.now b₁.windows.now tree r wrong o (clear_spare b' c) (kept s)
