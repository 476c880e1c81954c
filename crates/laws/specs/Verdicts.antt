-- Plain laws of verdicts: which grounds do not hold where a verdict accepts.
use Rattle.std.specs.Prelude.{ℕ, ◌≡◌, refl, Bool, true, false, not}
use Rattle.std.proofs.Common.{ap, ◌∙◌, arith}
use mathlib.Core.List.Memᴰ.{head as here}
use mathlib.Core.List.Memᴰ.{tail as there}
use mathlib.Core.List.{List, [], ◌∷◌, ◌++◌, map, foldr, Memᴰ as Mem}
use Rattle.model.specs.Verdict.{Verdict, accepted, refused, refuse_if, ◌then◌}
use Rattle.model.specs.Jobs.{Table}
use Rattle.model.specs.Table.{on_its_line, Reading, read, unless_refused}

-- neither of two verdicts refuses
pub then_accepted : (v w : Verdict) → (v then w) ≡ accepted → (v ≡ accepted) × (w ≡ accepted)
then_accepted accepted w e = (refl, e)
then_accepted (refused number place) w e = let apart : ◌≡◌ {A = ℕ} 0 1 = cc in absurd (omega arith)

-- the ground of a refusal that was not given does not hold
pub not_refused : (b : Bool) (number place : ℕ) → refuse_if b number place ≡ accepted → b ≡ false
not_refused true number place e = let apart : ◌≡◌ {A = ℕ} 0 1 = cc in absurd (omega arith)
not_refused false number place e = refl

-- what had to hold holds, and no later verdict refuses
pub passed : (b : Bool) (number place : ℕ) (v : Verdict) → (refuse_if (not b) number place then v) ≡ accepted → (b ≡ true) × (v ≡ accepted)
passed true number place v e = (refl, e)
passed false number place v e = (cc, cc)

-- a last verdict that accepts changes nothing
pub then_last : (v : Verdict) → (v then accepted) ≡ v
then_last accepted = refl
then_last (refused number place) = refl

-- verdicts in a row, in two parts
pub then_append : (vs ws : List Verdict) → foldr ◌then◌ accepted (vs ++ ws) ≡ (foldr ◌then◌ accepted vs then foldr ◌then◌ accepted ws)
then_append [] ws = refl
then_append (accepted ∷ vs) ws = then_append vs ws
then_append (refused number place ∷ vs) ws = refl

-- where all of a list are accepted, each is
pub all_accepted : (f : ℕ → Verdict) {j : ℕ} {l : List ℕ} → foldr ◌then◌ accepted (map f l) ≡ accepted → Mem j l → f j ≡ accepted
all_accepted f e (here {x = x} {xs = xs} same) = ap f same ∙ (then_accepted (f x) (foldr ◌then◌ accepted (map f xs)) e).0
all_accepted f e (there {x = x} {xs = xs} m) = all_accepted f (then_accepted (f x) (foldr ◌then◌ accepted (map f xs)) e).1 m

-- a reading that gives a table was not refused
pub accepted_reading : (v : Verdict) (r : Reading) (tb : Table) → unless_refused v r ≡ read tb → (v ≡ accepted) × (r ≡ read tb)
unfolding unless_refused
accepted_reading accepted r tb e = (refl, e)
accepted_reading (refused number place) r tb e = let apart : ◌≡◌ {A = ℕ} 0 1 = cc in absurd (omega arith)

-- the place of a refusal does not matter where there is none
pub placed_accepted : (own : List ℕ) (v : Verdict) → on_its_line own v ≡ accepted → v ≡ accepted
unfolding on_its_line
placed_accepted own accepted e = refl
placed_accepted own (refused number job) e = let apart : ◌≡◌ {A = ℕ} 0 1 = cc in absurd (omega arith)
