-- Refusals and answers (docs/RULES.md, 8; document 01, "What each operation turns away"): a number and a place, the first ground that applies.
use Rattle.std.specs.Prelude.{ℕ, ◌-◌, Bool, cond, List, ◌++◌, length, replicate}

pub data Verdict : Type 0 where
  accepted : Verdict
  refused : ℕ → ℕ → Verdict

-- refusal `number` at `place`, if the ground holds
abbrev pub refuse_if : Bool → ℕ → ℕ → Verdict
refuse_if applies number place = cond applies (refused number place) accepted

-- the first verdict that refuses
infixr 40 ◌then◌
abbrev pub ◌then◌ : Verdict → Verdict → Verdict
accepted then v = v
refused number place then v = refused number place

-- what an operation answers: the numbers that it gives back, or a refusal's number and place
pub data Answer : Type 0 where
  gives : List ℕ → Answer
  refuses : ℕ → ℕ → Answer

-- the answer to a verdict, with what is given back if it accepts
abbrev pub answer : Verdict → List ℕ → Answer
answer accepted values = gives values
answer (refused number place) values = refuses number place

-- a lent buffer afterwards: as it was if the call was refused, else what `written` says
abbrev pub lent : Verdict → List ℕ → List ℕ → List ℕ
lent accepted old written = written
lent (refused number place) old written = old

-- n cells: those of xs, and then v in each
abbrev pub padded : ℕ → ℕ → List ℕ → List ℕ
padded n v xs = xs ++ replicate (n - length xs) v
