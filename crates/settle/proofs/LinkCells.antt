-- What a link tells: the layout that it leads to, or that there is none.
use Rattle.std.proofs.Common.{ℕ, ◌≡◌, refl, sym, ap, ◌∙◌, true, false, true≢false}
use Rattle.std.specs.Prelude.{◌≢◌, Option, Some, None}
use Rattle.std.specs.Option.{is_some}
use Rattle.std.proofs.Math.Decide.{ℕ_discrete}
use borrow.Author.Tests.{eq-eqb, ne_eqb}
use Rattle.model.specs.Tree.{FFFF}
use Rattle.model.specs.declared.LayoutNumber.{LayoutNumber}
use Rattle.settle.specs.Numbering.{linked_layout, link_to}

no_link : (link : ℕ) → link ≡ FFFF → linked_layout link ≡ None
no_link link e = rw (eq-eqb link FFFF e) refl

a_link : (link : ℕ) → link ≢ FFFF → linked_layout link ≡ Some (record { 0 = link })
a_link link other = rw (ne_eqb link FFFF other) refl

-- it leads to the layout of its number
pub link_some : (link : ℕ) (x : LayoutNumber) → linked_layout link ≡ Some x → (x.0 ≡ link) × (link ≢ FFFF)
link_some link x e = elim (ℕ_discrete link FFFF) [
  | yes same ↦ absurd (let clash : None ≡ Some x = sym (no_link link same) ∙ e in cc)
  | no other ↦ (let same : Some (record { 0 = link }) ≡ Some x = sym (a_link link other) ∙ e in cc, other)
]

pub link_back : (link : ℕ) → link_to (linked_layout link) ≡ link
link_back link = elim (ℕ_discrete link FFFF) [
  | yes none ↦ rw (no_link link none) (sym none)
  | no some ↦ rw (a_link link some) refl
]

pub link_absent : (link : ℕ) → is_some (linked_layout link) ≡ false → link ≡ FFFF
link_absent link none = elim (ℕ_discrete link FFFF) [
  | yes same ↦ same
  | no other ↦ absurd (true≢false (sym (ap is_some (a_link link other)) ∙ none))
]

pub link_present : (link : ℕ) → is_some (linked_layout link) ≡ true → link ≢ FFFF
link_present link some none = true≢false (sym some ∙ ap is_some (no_link link none))

-- what no layout is read off ends the children
pub link_over : (link : ℕ) (o : Option LayoutNumber) → o ≡ linked_layout link → ((x : LayoutNumber) → o ≡ Some x → ⊥) → link ≡ FFFF
link_over link o e over = elim (ℕ_discrete link FFFF) [
  | yes same ↦ same
  | no other ↦ absurd (over (record { 0 = link }) (e ∙ a_link link other))
]
