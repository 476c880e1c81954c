-- Of two paths written from top to bottom the shared stretch holds exactly the shared layouts (document 01, "Shared stretch").
-- Two paths that meet are the same before the meeting, up to the top of the shorter.
use Rattle.std.specs.Prelude.{ℕ, zero, suc, ◌+◌, ◌-◌, ◌≤◌, ◌<◌, ◌≡◌, refl, ◌⊎◌, List, [], ◌∷◌, length, get_or, take, drop}
use Rattle.std.proofs.Common.{sym, ap, ◌∙◌, subst, inl, inr, ⊎_elim, not-suc-le-zero, lt_of_not-le, eq-zero-or-pos, le_refl, le_of_lt, arith, length-drop, get_or-drop, get_or-take, length-take-le, ext_get_or}
use Rattle.std.proofs.Math.Decide.{dec_le}
use Rattle.model.specs.Stretch.{agreement, leading, Stretch, stretch_of, numbers_of}
use Rattle.model.specs.Lists.{index_of}
use Rattle.laws.specs.Places.{index_stands, index_first}
use Rattle.stretch.specs.StretchLaws.{agreement_longest, leading_agrees, leading_within, leading_le, stretch_first, stretch_second, stretch_cases}

-- x stands somewhere in xs
pub record Stands (x : ℕ) (xs : List ℕ) : Type 0 where
  pub place : ℕ
  pub within : place < length xs
  pub here : get_or xs place 0 ≡ x

-- a path from top to bottom, where `parent` gives the number before: each number is the parent of the one after it, and smaller
pub record Descending (parent : ℕ → ℕ) (xs : List ℕ) : Type 0 where
  pub next : (k : ℕ) → suc k < length xs → parent (get_or xs (suc k) 0) ≡ get_or xs k 0
  pub rising : (k : ℕ) → suc k < length xs → get_or xs k 0 < get_or xs (suc k) 0

-- of two numbers one is at most the other, or larger
le_or_lt : (m n : ℕ) → (m ≤ n) ⊎ (n < m)
le_or_lt m n = by (dec_le m n)
  where
    by : Dec (m ≤ n) → (m ≤ n) ⊎ (n < m)
    by (yes h) = inl h
    by (no h) = inr (lt_of_not-le h)

-- along a path the numbers rise
rises : (parent : ℕ → ℕ) (xs : List ℕ) → Descending parent xs → (d k m : ℕ) → m ≡ k + suc d → m < length xs → get_or xs k 0 < get_or xs m 0
rises parent xs path zero k m e h =
    let at : suc k ≡ m = omega arith in
    subst (λ (n : ℕ). get_or xs k 0 < get_or xs n 0) at (path.rising k (omega arith))
rises parent xs path (suc d) k m e h =
    let step : get_or xs k 0 < get_or xs (suc k) 0 = path.rising k (omega arith) in
    let rest : get_or xs (suc k) 0 < get_or xs m 0 = rises parent xs path d (suc k) m (omega arith) h in
    omega arith

-- two paths that meet are the same before
meet_before : (parent : ℕ → ℕ) (xs ys : List ℕ) → Descending parent xs → Descending parent ys
    → (d i j m n : ℕ) → m ≡ i + d → n ≡ j + d → m < length xs → n < length ys → get_or xs m 0 ≡ get_or ys n 0 → get_or xs i 0 ≡ get_or ys j 0
meet_before parent xs ys p q zero i j m n em en hm hn e =
    let mi : m ≡ i = omega arith in
    let nj : n ≡ j = omega arith in
    subst (λ (k : ℕ). get_or xs k 0 ≡ get_or ys j 0) mi (subst (λ (k : ℕ). get_or xs m 0 ≡ get_or ys k 0) nj e)
meet_before parent xs ys p q (suc d) i j m n em en hm hn e =
    sym (p.next i (omega arith))
    ∙ ap parent (meet_before parent xs ys p q d (suc i) (suc j) m n (omega arith) (omega arith) hm hn e)
    ∙ q.next j (omega arith)

-- on a path a number has one place
path_place : (parent : ℕ → ℕ) (ys : List ℕ) → Descending parent ys → (p : ℕ) → p < length ys → index_of (get_or ys p 0) ys ≡ p
path_place parent ys path p h =
    ⊎_elim (λ l. ⊎_elim (λ g. omega arith) (λ g. absurd (before g)) (le_or_lt p (index_of (get_or ys p 0) ys)))
    (λ g. absurd (index_first (get_or ys p 0) ys p g refl))
    (le_or_lt (index_of (get_or ys p 0) ys) p)
  where
    before : index_of (get_or ys p 0) ys < p → ⊥
    before l =
        let same : get_or ys (index_of (get_or ys p 0) ys) 0 ≡ get_or ys p 0 = index_stands (get_or ys p 0) ys (omega arith) in
        let less : get_or ys (index_of (get_or ys p 0) ys) 0 < get_or ys p 0 =
        rises parent ys path (p - suc (index_of (get_or ys p 0) ys)) (index_of (get_or ys p 0) ys) p (omega arith) h in
        omega arith

-- numbers that are the same up to place i belong to the agreement
agreement_reaches : (xs ys : List ℕ) (i : ℕ) → i < length xs → i < length ys
    → ((k : ℕ) → k < suc i → get_or xs k 0 ≡ get_or ys k 0) → i < agreement xs ys
agreement_reaches xs ys i h l same =
    agreement_longest xs ys (suc i) h
    (ext_get_or 0 (take (suc i) xs) (take (suc i) ys) (xs_count ∙ sym (length-take-le (suc i) ys l))
    (λ k kh. at k (subst (λ (n : ℕ). k < n) xs_count kh)))
  where
    xs_count : length (take (suc i) xs) ≡ suc i
    xs_count = length-take-le (suc i) xs h

    at : (k : ℕ) → k < suc i → get_or (take (suc i) xs) k 0 ≡ get_or (take (suc i) ys) k 0
    at k kh = get_or-take (suc i) xs k 0 kh ∙ same k kh ∙ sym (get_or-take (suc i) ys k 0 kh)

-- and from the place of the first number on to the leading part
leading_reaches : (xs ys : List ℕ) (p i : ℕ) → index_of (get_or xs 0 0) ys ≡ p → i < length xs → p + i < length ys
    → ((k : ℕ) → k < suc i → get_or xs k 0 ≡ get_or ys (p + k) 0) → i < leading xs ys
unfolding leading
leading_reaches [] ys p i e h l same = absurd (not-suc-le-zero h)
leading_reaches (x ∷ xs) ys p i e h l same =
    rw e
    (agreement_reaches (x ∷ xs) (drop p ys) i h (omega (arith, length-drop p ys)) (λ k kh. same k kh ∙ sym (get_or-drop p ys k 0)))

module _ (parent : ℕ → ℕ) (xs ys : List ℕ) (p : Descending parent xs) (q : Descending parent ys) (i j : ℕ) (h : i < length xs) (l : j < length ys)
    (met : get_or xs i 0 ≡ get_or ys j 0) where
  -- where two paths meet and the first has no more before than the second, the first leads at least to the meeting
  meet_leading : i ≤ j → i < leading xs ys
  meet_leading le =
      leading_reaches xs ys (j - i) i
      (ap (λ (x : ℕ). index_of x ys) (meet_before parent xs ys p q i 0 (j - i) i j (omega arith) (omega arith) h l met)
      ∙ path_place parent ys q (j - i) (omega arith))
      h
      (omega arith)
      (λ k kh. meet_before parent xs ys p q (i - k) k (j - i + k) i j (omega arith) (omega arith) h l met)

  -- where it has more before, its first number does not stand in the second
  meet_not_leading : j < i → leading xs ys ≡ 0
  meet_not_leading more = ⊎_elim (λ e. e) (λ some. absurd (stands some)) (eq-zero-or-pos (leading xs ys))
    where
      stands : 0 < leading xs ys → ⊥
      stands some =
          let place = index_of (get_or xs 0 0) ys in
          let top : get_or xs (i - j) 0 ≡ get_or ys 0 0 = meet_before parent xs ys p q j (i - j) 0 i j (omega arith) (omega arith) h l met in
          let less : get_or xs 0 0 < get_or xs (i - j) 0 = rises parent xs p (i - j - 1) 0 (i - j) (omega arith) (omega arith) in
          let within : place + 0 < length ys = leading_within xs ys 0 some in
          let same : get_or ys place 0 ≡ get_or xs 0 0 = index_stands (get_or xs 0 0) ys (omega arith) in
          let least : get_or ys 0 0 ≤ get_or ys place 0 =
          ⊎_elim (λ e. rw e (le_refl _)) (λ g. le_of_lt (rises parent ys q (place - 1) 0 place (omega arith) (omega arith))) (eq-zero-or-pos place) in
          omega arith

-- a number in a leading part
taken : (xs : List ℕ) (n i : ℕ) → n ≤ length xs → i < n → {x : ℕ} → get_or xs i 0 ≡ x → Stands x (take n xs)
taken xs n i fits h e = record { place = i; within = rw (length-take-le n xs fits) h; here = get_or-take n xs i 0 h ∙ e }

-- a number that stands in both of two paths stands in their shared stretch
pub shared_in_stretch : (parent : ℕ → ℕ) (xs ys : List ℕ) → Descending parent xs → Descending parent ys
    → (z : ℕ) → Stands z xs → Stands z ys → Stands z (numbers_of (stretch_of xs ys) xs ys)
shared_in_stretch parent xs ys p q z a b = ⊎_elim from_first from_second (le_or_lt a.place b.place)
  where
    from_first : a.place ≤ b.place → Stands z (numbers_of (stretch_of xs ys) xs ys)
    from_first le =
        let led : a.place < leading xs ys = meet_leading parent xs ys p q a.place b.place a.within b.within (a.here ∙ sym b.here) le in
        subst (λ (s : Stretch). Stands z (numbers_of s xs ys)) (sym (stretch_first xs ys (omega arith)))
        (taken xs (leading xs ys) a.place (leading_le xs ys) led a.here)

    from_second : b.place < a.place → Stands z (numbers_of (stretch_of xs ys) xs ys)
    from_second less =
        let none : leading xs ys ≡ 0 = meet_not_leading parent xs ys p q a.place b.place a.within b.within (a.here ∙ sym b.here) less in
        let led : b.place < leading ys xs =
        meet_leading parent ys xs q p b.place a.place b.within a.within (b.here ∙ sym a.here) (omega arith) in
        subst (λ (s : Stretch). Stands z (numbers_of s xs ys)) (sym (stretch_second xs ys none (omega arith)))
        (taken ys (leading ys xs) b.place (leading_le ys xs) led b.here)

-- a number of a leading part stands in both lists
led_in_both : (xs ys : List ℕ) (z : ℕ) → Stands z (take (leading xs ys) xs) → Stands z xs × Stands z ys
led_in_both xs ys z a =
    let h : a.place < leading xs ys = subst (λ (n : ℕ). a.place < n) (length-take-le (leading xs ys) xs (leading_le xs ys)) a.within in
    let e : get_or xs a.place 0 ≡ z = sym (get_or-take (leading xs ys) xs a.place 0 h) ∙ a.here in (
      record { place = a.place; within = omega (arith, leading_le xs ys); here = e },
      record {
        place = index_of (get_or xs 0 0) ys + a.place;
        within = leading_within xs ys a.place h;
        here = sym (leading_agrees xs ys a.place h) ∙ e;
      },
    )

-- a number of the shared stretch of any two lists stands in both
pub stretch_in_both : (xs ys : List ℕ) (z : ℕ) → Stands z (numbers_of (stretch_of xs ys) xs ys) → Stands z xs × Stands z ys
stretch_in_both xs ys z =
    stretch_cases (λ s. Stands z (numbers_of s xs ys) → Stands z xs × Stands z ys) xs ys
    (led_in_both xs ys z)
    (λ a. let both = led_in_both ys xs z a in (both.1, both.0))
    (λ a. absurd (not-suc-le-zero a.within))
