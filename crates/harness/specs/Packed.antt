-- The answers of the public operations as one number each, for callers in another language.
use Rattle.std.specs.Prelude.{ℕ, ◌+◌, ◌*◌, ◌≡◌, List, ◌++◌, length, take, drop, Result, Ok, Err}
use Rattle.model.specs.Stretch.{stretch_of, numbers_of, kept}
use Rattle.model.specs.Outcomes.{SettleOutcome, ReadOutcome, PlanOutcome}
use Rattle.model.specs.declared.Refusal.{Refusal}
use Rattle.model.specs.Answers.{reason_number}
use Rattle.model.specs.declared.Counts.{Counts}
use Rattle.model.specs.declared.Totals.{Totals}

-- number × 65536 + place
abbrev pub packed_refusal : Refusal → ℕ
packed_refusal r = reason_number r.reason * 65536 + r.place

-- 0, or the refusal
abbrev pub packed_settled : Result Unit Refusal → ℕ
packed_settled (Ok done) = 0
packed_settled (Err r) = packed_refusal r

-- layouts × 65536 + jobs, or 2^32 times the refusal
abbrev pub packed_read : Result Counts Refusal → ℕ
packed_read (Ok c) = c.layouts * 65536 + c.jobs
packed_read (Err r) = packed_refusal r * 4294967296

-- *Settle layouts*, its answer packed
pub record PackedSettle (parents depths firsts lasts : List ℕ) (packed : ℕ) (depths' firsts' lasts' : List ℕ) : Type 0 where
  pub result : Result Unit Refusal
  pub packs : packed ≡ packed_settled result
  pub outcome : SettleOutcome parents depths firsts lasts result depths' firsts' lasts'

-- *Read a table*, its answer packed
pub record PackedTable (bytes parents tops bottoms marks windows : List ℕ) (packed : ℕ) (parents' tops' bottoms' marks' windows' : List ℕ) : Type 0 where
  pub result : Result Counts Refusal
  pub packs : packed ≡ packed_read result
  pub outcome : ReadOutcome bytes parents tops bottoms marks windows result parents' tops' bottoms' marks' windows'

-- a list after the leading numbers of another are copied over it, as far as there is room
abbrev pub copied : List ℕ → List ℕ → List ℕ
copied from to = take (length to) from ++ drop (length from) to

-- *Shared stretch*: its length, and its numbers copied
pub record CopiedStretch (first second out : List ℕ) (count : ℕ) (out' : List ℕ) : Type 0 where
  pub counted : count ≡ length (numbers_of (stretch_of (kept first) (kept second)) (kept first) (kept second))
  pub out_holds : out' ≡ copied (numbers_of (stretch_of (kept first) (kept second)) (kept first) (kept second)) out

-- pairs × 2^48 + singles × 2^32 + visits, or 2^63 + the refusal
abbrev pub packed_planned : Result Totals Refusal → ℕ
packed_planned (Ok p) = p.pairs * 281474976710656 + p.singles * 4294967296 + p.visits
packed_planned (Err r) = packed_refusal r + 9223372036854775808

-- *Plan*, its answer packed
pub record PackedPlan (parents tops bottoms marks windows partners uppers printed work : List ℕ) (packed : ℕ) (partners' uppers' printed' work' : List ℕ) : Type 0 where
  pub result : Result Totals Refusal
  pub packs : packed ≡ packed_planned result
  pub outcome : PlanOutcome parents tops bottoms marks windows partners uppers printed work result partners' uppers' printed' work'
