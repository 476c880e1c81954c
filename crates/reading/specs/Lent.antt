-- What is asked and promised of the lent buffers that lines are read into.
use Rattle.std.specs.Prelude.{List, ℕ, Result}
use Rattle.model.specs.declared.Refusal.{Refusal}
use Rattle.buffers.specs.declared.TableBuffers.{TableBuffers}
use Rattle.reading.specs.Steps.{BuffersReady, LinesRead}
use Rattle.reading.specs.declared.Ended.{Ended}

-- they are clear, with room for the layouts and jobs of the bytes
abbrev pub ReadyFor : List ℕ → TableBuffers → Type 0
ReadyFor bytes b = BuffersReady bytes b.parents.now b.tops.now b.bottoms.now b.marks.now b.windows.now

-- the lines are read into them
abbrev pub ReadInto : List ℕ → TableBuffers → Result Ended Refusal → Type 0
ReadInto bytes b = LinesRead bytes b.parents.now b.tops.now b.bottoms.now b.marks.now b.windows.now
