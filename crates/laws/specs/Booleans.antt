-- Plain laws of tests and their answers.
use Rattle.std.specs.Prelude.{ℕ, ◌+◌, ◌≡◌, refl, ◌⊎◌, Bool, true, false, not, ◌||◌, T, eqb, leb, ltb}
use Rattle.std.proofs.Common.{sym, ◌∙◌, inl, inr, true≢false, arith, eq-eqb, ne_eqb, lt-ltb, le-ltb, le-leb}
use Rattle.std.proofs.Math.Bool.{xor}
use Rattle.std.proofs.Math.Decide.{dec_lt, ℕ_discrete}
use Rattle.std.proofs.lemmas.Bool.{lt-leb}

-- a test answers one or the other
pub answers : (b : Bool) → (b ≡ true) ⊎ (b ≡ false)
answers true = inl refl
answers false = inr refl

-- and not both
pub one_answer : {b : Bool} → b ≡ true → b ≡ false → ⊥
one_answer p q = true≢false (sym p ∙ q)

-- two tests that pass together are one
pub same_test : (a b : Bool) → (a ≡ true → b ≡ true) → (b ≡ true → a ≡ true) → a ≡ b
same_test true true f g = refl
same_test true false f g = sym (f refl)
same_test false true f g = g refl
same_test false false f g = refl

-- one of two tests passes
pub or_cases : (a b : Bool) → (a || b) ≡ true → (a ≡ true) ⊎ (b ≡ true)
or_cases true b e = inl refl
or_cases false b e = inr e

pub or_right : (a b : Bool) → b ≡ true → (a || b) ≡ true
or_right true b e = refl
or_right false b e = e

-- neither does
pub or_false_both : (a b : Bool) → (a || b) ≡ false → (a ≡ false) × (b ≡ false)
or_false_both true b e = absurd (true≢false e)
or_false_both false b e = (refl, e)

-- exactly one of two tests passes, whichever is named first
pub xor_symmetric : (a b : Bool) → xor a b ≡ xor b a
unfolding xor
xor_symmetric true true = refl
xor_symmetric true false = refl
xor_symmetric false true = refl
xor_symmetric false false = refl

-- then the second answers what the first does not
pub xor_true : (a b : Bool) → xor a b ≡ true → b ≡ not a
unfolding xor
xor_true true true e = sym e
xor_true true false e = refl
xor_true false true e = refl
xor_true false false e = e

pub true_xor : (a b : Bool) → b ≡ not a → xor a b ≡ true
unfolding xor
true_xor true b e = rw e refl
true_xor false b e = rw e refl

-- and otherwise the same
pub xor_false : (a b : Bool) → xor a b ≡ false → b ≡ a
unfolding xor
xor_false true true e = refl
xor_false true false e = sym e
xor_false false true e = e
xor_false false false e = refl

-- a test that passes, as a type
pub true_T : {b : Bool} → b ≡ true → T b
true_T e = rw e tt

-- and back
pub T_true : (b : Bool) → T b → b ≡ true
T_true true t = refl
T_true false t = absurd t

-- numbers moved by as much compare as they did
module _ (b x y : ℕ) where
  pub leb_moved : leb (b + x) (b + y) ≡ leb x y
  leb_moved = elim (dec_lt y x) [
    | yes less ↦ rw (lt-leb x y less, lt-leb (b + x) (b + y) (omega arith)) refl
    | no more ↦ rw (le-leb x y (omega arith), le-leb (b + x) (b + y) (omega arith)) refl
  ]

  pub ltb_moved : ltb (b + x) (b + y) ≡ ltb x y
  ltb_moved = elim (dec_lt x y) [
    | yes less ↦ rw (lt-ltb x y less, lt-ltb (b + x) (b + y) (omega arith)) refl
    | no more ↦ rw (le-ltb x y (omega arith), le-ltb (b + x) (b + y) (omega arith)) refl
  ]

  pub eqb_moved : eqb (b + x) (b + y) ≡ eqb x y
  eqb_moved = elim (ℕ_discrete x y) [
    | yes same ↦ rw (eq-eqb x y same, eq-eqb (b + x) (b + y) (omega arith)) refl
    | no other ↦ rw (ne_eqb x y other, ne_eqb (b + x) (b + y) (λ e. other (omega arith))) refl
  ]
