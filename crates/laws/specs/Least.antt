-- The smallest of a function over a span of numbers; FFFF, which stands for none, over an empty one.
use Prim.Native.Nat.{ℕ, zero, suc, ◌+◌, ◌-◌, ◌<◌, ◌≤◌, min}
use Rattle.std.specs.Prelude.{◌≡◌}
use Rattle.std.proofs.Math.Path.{refl, sym}
use Rattle.std.proofs.Common.{◌∙◌, zero-add}
use Rattle.std.proofs.Math.Nat.{add-zero, suc-add, add-suc}
use native.Mathlib.Omega.{arith}
use Rattle.std.proofs.Math.Decide.{ℕ_discrete, dec_le}
use Rattle.model.specs.Tree.{FFFF}

-- of f at the n numbers from a on
unfoldable pub least_of : (ℕ → ℕ) → ℕ → ℕ → ℕ
least_of f a zero = FFFF
least_of f a (suc n) = min (f a) (least_of f (suc a) n)

module _ (f : ℕ → ℕ) where
  pub least_none : (a : ℕ) → least_of f a 0 ≡ FFFF
  unfolding least_of
  least_none a = refl

  pub least_one : (a : ℕ) → least_of f a 1 ≡ min (f a) FFFF
  unfolding least_of
  least_one a = refl

  pub least_cap : (a n : ℕ) → least_of f a n ≤ FFFF
  unfolding least_of
  least_cap a zero = omega arith
  least_cap a (suc n) = omega (arith, least_cap (suc a) n)

  pub least_le : (a n i : ℕ) → a ≤ i → i < a + n → least_of f a n ≤ f i
  unfolding least_of
  least_le a zero i h below = absurd (omega arith)
  least_le a (suc n) i h below = elim (ℕ_discrete i a) [
    | yes first ↦ rw first (omega arith)
    | no later ↦ omega (arith, least_le (suc a) n i (omega arith) (omega arith))
  ]

  pub least_reached : (a n : ℕ) → (least_of f a n ≡ FFFF → ⊥) → (i : ℕ) × (a ≤ i) × (i < a + n) × (f i ≡ least_of f a n)
  unfolding least_of
  least_reached a zero some = absurd (some refl)
  least_reached a (suc n) some = elim (dec_le (f a) (least_of f (suc a) n)) [
    | yes first ↦ (a, omega arith, omega arith, omega arith)
    | no rest ↦
        let same : min (f a) (least_of f (suc a) n) ≡ least_of f (suc a) n = omega arith in
        let r = least_reached (suc a) n (λ none. some (same ∙ none)) in
        (r.0, omega (arith, r.1), omega (arith, r.2), r.3 ∙ sym same)
  ]

  -- at least m where f is
  pub least_bound : (a n m : ℕ) → m ≤ FFFF → ((i : ℕ) → a ≤ i → i < a + n → m ≤ f i) → m ≤ least_of f a n
  unfolding least_of
  least_bound a zero m cap h = cap
  least_bound a (suc n) m cap h = omega (arith, h a (omega arith) (omega arith), least_bound (suc a) n m cap (λ i b c. h i (omega arith) (omega arith)))

  -- two spans side by side
  pub least_append : (a m n : ℕ) → least_of f a (m + n) ≡ min (least_of f a m) (least_of f (a + m) n)
  unfolding least_of
  least_append a zero n = rw (zero-add n, add-zero a) (omega (arith, least_cap a n))
  least_append a (suc m) n = rw (suc-add m n, least_append (suc a) m n, add-suc a m, suc-add a m) (omega arith)

  -- one number more
  pub least_more : (a n : ℕ) → least_of f a (n + 1) ≡ min (least_of f a n) (f (a + n))
  unfolding least_of
  least_more a n = least_append a n 1 ∙ (omega (arith, least_cap a n))

  -- a span of n numbers is covered by its first w and its last w, where two times w are enough
  pub least_cover : (a n w : ℕ) → w ≤ n → n ≤ w + w → min (least_of f a w) (least_of f (a + n - w) w) ≡ least_of f a n
  least_cover a n w small wide =
      let p : ℕ = least_of f a (n - w) in
      let q : ℕ = least_of f (a + n - w) (w + w - n) in
      let r : ℕ = least_of f (a + w) (n - w) in
      let first : (n - w) + (w + w - n) ≡ w = omega arith in
      let between : a + (n - w) ≡ a + n - w = omega arith in
      let last : (w + w - n) + (n - w) ≡ w = omega arith in
      let end : a + n - w + (w + w - n) ≡ a + w = omega arith in
      let both : w + (n - w) ≡ n = omega arith in
      let left : least_of f a w ≡ min p q = rw (first, between) at (least_append a (n - w) (w + w - n)) in
      let right : least_of f (a + n - w) w ≡ min q r = rw (last, end) at (least_append (a + n - w) (w + w - n) (n - w)) in
      let whole : least_of f a n ≡ min (least_of f a w) r = rw both at (least_append a w (n - w)) in
      omega (arith, left, right, whole)
