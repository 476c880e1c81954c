-- Laws of right parents: the rule of one layout, and the verdict on the layouts from x on.
use Prim.Native.Nat.{ℕ, zero, suc, ◌+◌, ◌<◌, ◌≤◌}
use mathlib.Core.Path.{◌≡◌, refl, ◌∙◌}
use mathlib.Core.Bool.{true, false, not}
use mathlib.Core.List.{List}
use native.Mathlib.Numerals.{add-one}
use lib.ListN.{length, get_or, drop}
use lib.Seq.{drop-cons}
use Rattle.std.proofs.lemmas.List.{drop_all}
use lib.Dec.{eqb, ltb}
use Rattle.model.specs.Verdict.{accepted, refused, refuse_if, ◌then◌}
use Rattle.model.specs.Tree.{right_parent, layouts_from}

pub right_later : (x p : ℕ) → ((x ≡ 0) → ⊥) → ltb p x ≡ right_parent x p
unfolding right_parent
right_later zero p f = absurd (f refl)
right_later (suc x) p f = refl

pub right_root : (x p : ℕ) → x ≡ 0 → eqb p 65535 ≡ right_parent x p
unfolding right_parent
right_root x p e = rw e

module _ (ps : List ℕ) (x : ℕ) (h : x < length ps) where
  layouts_at : layouts_from x (drop x ps) ≡ refuse_if (not (right_parent x (get_or ps x 0))) 4 x then layouts_from (suc x) (drop (suc x) ps)
  unfolding layouts_from
  layouts_at = rw (drop-cons ps x 0)

  pub layouts_right : right_parent x (get_or ps x 0) ≡ true → layouts_from x (drop x ps) ≡ layouts_from (x + 1) (drop (x + 1) ps)
  layouts_right e = layouts_at ∙ rw (e, add-one)

  pub layouts_wrong : right_parent x (get_or ps x 0) ≡ false → layouts_from x (drop x ps) ≡ refused 4 x
  layouts_wrong e = layouts_at ∙ rw e

pub layouts_end : (ps : List ℕ) (x : ℕ) → length ps ≤ x → layouts_from x (drop x ps) ≡ accepted
unfolding layouts_from
layouts_end ps x h = rw (drop_all x ps h)
