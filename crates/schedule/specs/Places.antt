-- What a cell tells that holds a place, or FFFF for none.
use Rattle.std.specs.Prelude.{ℕ, Some, None, IfSome, ◌≡◌, ◌≢◌, refl, true, false}
use Rattle.std.proofs.Math.Decide.{ℕ_discrete}
use borrow.Author.Tests.{eq-eqb, ne_eqb}
use Rattle.std.proofs.Common.{sym, ap, ◌∙◌, true≢false}
use Rattle.std.specs.Option.{is_some}
use Rattle.model.specs.Tree.{FFFF}
use Rattle.model.specs.declared.Rank.{Rank}
use Rattle.model.specs.Cells.{place_in, cell_of}

-- the cell of no place
pub none_held : (cell : ℕ) → cell ≡ FFFF → place_in cell ≡ None
none_held cell e = rw (eq-eqb cell FFFF e) refl

-- the cell of a place
pub one_held : (cell : ℕ) → cell ≢ FFFF → place_in cell ≡ Some (record { 0 = cell })
one_held cell other = rw (ne_eqb cell FFFF other) refl

-- no place is read off the cell of none alone
pub held_none : (cell : ℕ) → place_in cell ≡ None → cell ≡ FFFF
held_none cell e = elim (ℕ_discrete cell FFFF) [
  | yes same ↦ same
  | no other ↦ absurd (let clash : Some (record { 0 = cell }) ≡ None = sym (one_held cell other) ∙ e in cc)
]

-- and a place off its own cell
pub held_one : (cell : ℕ) (p : Rank) → place_in cell ≡ Some p → (p.0 ≡ cell) × (cell ≢ FFFF)
held_one cell p e = elim (ℕ_discrete cell FFFF) [
  | yes same ↦ absurd (let clash : None ≡ Some p = sym (none_held cell same) ∙ e in cc)
  | no other ↦ (let same : Some (record { 0 = cell }) ≡ Some p = sym (one_held cell other) ∙ e in cc, other)
]

-- the cell of what a cell tells is as it was
pub cell_back : (cell : ℕ) → cell_of (place_in cell) ≡ cell
cell_back cell = elim (ℕ_discrete cell FFFF) [
  | yes none ↦ rw (none_held cell none) (sym none)
  | no some ↦ rw (one_held cell some) refl
]

-- whether a cell holds a place
pub is_place : (cell : ℕ) → is_some (place_in cell) ≡ true → cell ≢ FFFF
is_place cell some none = true≢false (sym some ∙ ap is_some (none_held cell none))

pub is_none : (cell : ℕ) → is_some (place_in cell) ≡ false → cell ≡ FFFF
is_none cell none = elim (ℕ_discrete cell FFFF) [
  | yes same ↦ same
  | no some ↦ absurd (true≢false (sym (ap is_some (one_held cell some)) ∙ none))
]

-- what it tells is never FFFF
pub held_known : (cell : ℕ) → IfSome (place_in cell) (λ p. p.0 ≢ FFFF)
held_known cell = elim (ℕ_discrete cell FFFF) [
  | yes none ↦ rw (none_held cell none) tt
  | no some ↦ rw (one_held cell some) some
]
