-- Laws of the visits of a lookup, level by level from the slots up. With an end of the span rounded down and up to the cells of a level, an
-- end lies strictly inside a cell where the two differ; such cells are visited with both halves, and no others.
use Prim.Native.Nat.{ℕ, zero, suc, ◌+◌, ◌-◌, ◌*◌, ◌/◌, ◌%◌, ◌^◌, ◌<◌, ◌≤◌, min}
use Rattle.std.specs.Prelude.{◌≡◌}
use Rattle.std.proofs.Math.Path.{refl}
use Rattle.std.proofs.Common.{sym, ◌∙◌, inl, inr, add-zero, add-suc, zero-add, zero-mul, mul-add, add-mul, two-mul, one-mul, mul-one, pow_pos}
use Rattle.std.proofs.Math.Nat.{sub-zero, two-pow-succ, pow-zero}
use native.Mathlib.Omega.{arith}
use Rattle.std.proofs.Math.Decide.{ℕ_discrete, dec_le, dec_lt}
use Rattle.std.specs.Int.Count.{count_trailing_zeros}
use Rattle.std.proofs.lemmas.Bool.{lt-leb}
use Rattle.model.specs.Visits.{cell_visits, visits}
use Rattle.sweep_laws.specs.VisitCount.{levels_inside}
use Rattle.sweep_laws.specs.VisitBound.{visits_inside, visits_before, visits_past, visits_halves}

-- x in cells of level j, 2 ^ j slots each, rounded down
unfoldable pub down : ℕ → ℕ → ℕ
down zero x = x
down (suc j) x = down j x / 2

-- and rounded up
unfoldable pub up : ℕ → ℕ → ℕ
up zero x = x
up (suc j) x = (up j x + 1) / 2

-- how many cells of the levels 1 to j have x strictly inside
count : ℕ → ℕ → ℕ
count zero x = 0
count (suc j) x = count j x + (up (suc j) x - down (suc j) x)

-- how many have `from` or `to` strictly inside, for `from` < `to`. A cell that has both counts once: there `from` is rounded up past where `to` is rounded down
pub splits : ℕ → ℕ → ℕ → ℕ
splits zero from to = 0
splits (suc j) from to =
    splits j from to + ((up (suc j) to - down (suc j) to) + (min (up (suc j) from) (down (suc j) to) - down (suc j) from))

-- ---- rounding

pub down_le_up : (j x : ℕ) → down j x ≤ up j x
unfolding down up
down_le_up zero x = omega arith
down_le_up (suc j) x = omega (arith, down_le_up j x)

pub up_le_down : (j x : ℕ) → up j x ≤ down j x + 1
unfolding down up
up_le_down zero x = omega arith
up_le_down (suc j) x = omega (arith, up_le_down j x)

pub down_mono : (j x y : ℕ) → x ≤ y → down j x ≤ down j y
unfolding down
down_mono zero x y h = h
down_mono (suc j) x y h = omega (arith, down_mono j x y h)

pub up_mono : (j x y : ℕ) → x ≤ y → up j x ≤ up j y
unfolding up
up_mono zero x y h = h
up_mono (suc j) x y h = omega (arith, up_mono j x y h)

-- n cells of level k + 1 are 2n cells of level k
twice : (k n : ℕ) → n * 2 ^ suc k ≡ 2 * n * 2 ^ k
twice k n = rw (two-pow-succ k, mul-add n (2 ^ k) (2 ^ k), two-mul n, add-mul n n (2 ^ k))

next : (k n : ℕ) → (n + 1) * 2 ^ k ≡ n * 2 ^ k + 2 ^ k
next k n = rw (add-mul n 1 (2 ^ k), one-mul (2 ^ k))

-- x lies at or before the start of cell n exactly if rounded up it does
up_le : (k x n : ℕ) → up k x ≤ n → x ≤ n * 2 ^ k
unfolding up
up_le zero x n h = rw (pow-zero 2, mul-one n) h
up_le (suc k) x n h = rw (twice k n) (up_le k x (2 * n) (omega arith))

pub le_up : (k x n : ℕ) → x ≤ n * 2 ^ k → up k x ≤ n
unfolding up
le_up zero x n h = rw (← (mul-one n)) h
le_up (suc k) x n h = omega (arith, le_up k x (2 * n) (rw (twice k n) at h))

-- and at or after it exactly if rounded down it does
down_ge : (k x n : ℕ) → n ≤ down k x → n * 2 ^ k ≤ x
unfolding down
down_ge zero x n h = rw (pow-zero 2, mul-one n) h
down_ge (suc k) x n h = rw (twice k n) (down_ge k x (2 * n) (omega arith))

ge_down : (k x n : ℕ) → n * 2 ^ k ≤ x → n ≤ down k x
unfolding down
ge_down zero x n h = rw (← (mul-one n)) h
ge_down (suc k) x n h = omega (arith, ge_down k x (2 * n) (rw (twice k n) at h))

up_gt : (k x n : ℕ) → n < up k x → n * 2 ^ k < x
up_gt k x n h = elim (dec_lt (n * 2 ^ k) x) [
  | yes less ↦ less
  | no more ↦ absurd (omega (arith, le_up k x n (omega arith)))
]

down_lt : (k x n : ℕ) → down k x < n → x < n * 2 ^ k
down_lt k x n h = elim (dec_lt x (n * 2 ^ k)) [
  | yes less ↦ less
  | no more ↦ absurd (omega (arith, ge_down k x n (omega arith)))
]

-- ---- the visits at and under cell n of level k, by the rounded ends

module _ (k n start from to : ℕ) (at : start ≡ n * 2 ^ k) where
  cell_end : start + 2 ^ k ≡ (n + 1) * 2 ^ k
  cell_end = omega (arith, next k n)

  cell_inside : up k from ≤ n → n + 1 ≤ down k to → cell_visits k start from to ≡ 1
  cell_inside a b = visits_inside k start from to (omega (arith, up_le k from n a)) (omega (arith, cell_end, down_ge k to (n + 1) b))

  cell_before : up k to ≤ n → cell_visits k start from to ≡ 1
  cell_before a = visits_before k start from to (omega (arith, up_le k to n a))

  cell_past : n + 1 ≤ down k from → cell_visits k start from to ≡ 1
  cell_past a = visits_past k start from to (omega (arith, cell_end, down_ge k from (n + 1) a))

module _ (k n start from to : ℕ) (at : start ≡ n * 2 ^ suc k) where
  left_half : start ≡ 2 * n * 2 ^ k
  left_half = at ∙ twice k n

  right_half : start + 2 ^ k ≡ (2 * n + 1) * 2 ^ k
  right_half = omega (arith, left_half, next k (2 * n))

  -- both halves of a cell that has `from` strictly inside, or `to`
  cell_from_halves : n < up (suc k) from → down (suc k) from ≤ n → start < to → cell_visits (suc k) start from to ≡ 1 + (cell_visits k start from to + cell_visits k (start + 2 ^ k) from to)
  cell_from_halves a b c =
      let begun : start < from = omega (arith, up_gt (suc k) from n a) in
      visits_halves k start from to c (omega (arith, cell_end (suc k) n start from to at, down_lt (suc k) from (n + 1) (omega arith))) (inl begun)

  cell_to_halves : n < up (suc k) to → down (suc k) to ≤ n → from < start + 2 ^ suc k → cell_visits (suc k) start from to ≡ 1 + (cell_visits k start from to + cell_visits k (start + 2 ^ k) from to)
  cell_to_halves a b c =
      let end : to < start + 2 ^ suc k = omega (arith, cell_end (suc k) n start from to at, down_lt (suc k) to (n + 1) (omega arith)) in
      visits_halves k start from to (omega (arith, up_gt (suc k) to n a)) c (inr end)

-- an end on a cell's border has no cell of this level or below around it
count_border : (k n x : ℕ) → up k x ≤ n → n ≤ down k x → count k x ≡ 0
unfolding count down up
count_border zero n x a b = refl
count_border (suc k) n x a b = omega (arith, down_le_up k x, count_border k (2 * n) x (omega arith) (omega arith))

-- one cell more where x lies strictly inside
count_more : (k n x : ℕ) → n < up (suc k) x → down (suc k) x ≤ n → count (suc k) x ≡ count k x + 1
unfolding count
count_more k n x a b = omega (arith, up_le_down (suc k) x)

-- the span ends at or past the cell's end, and begins inside it or at a border
visits_from : (k n start from to : ℕ) → start ≡ n * 2 ^ k → n + 1 ≤ down k to → n ≤ down k from → up k from ≤ n + 1 → cell_visits k start from to ≡ 1 + 2 * count k from
unfolding cell_visits count down up
visits_from zero n start from to at past a b = refl
visits_from (suc k) n start from to at past a b = elim (dec_le (up (suc k) from) n) [
  | yes begun ↦ omega (arith, cell_inside (suc k) n start from to at begun past, count_border (suc k) n from begun a)
  | no later ↦ elim (dec_le (n + 1) (down (suc k) from)) [
    | yes end ↦ omega (arith, cell_past (suc k) n start from to at end, count_border (suc k) (n + 1) from b end)
    | no earlier ↦
        let both = cell_from_halves k n start from to at (omega arith) (omega arith) (omega (arith, cell_end (suc k) n start from to at, down_ge (suc k) to (n + 1) past, pow_pos (suc k))) in
        let more = count_more k n from (omega arith) (omega arith) in
        elim (dec_le (up k from) (2 * n + 1)) [
          | yes left ↦ omega (
            arith,
            both,
            more,
            visits_from k (2 * n) start from to (left_half k n start from to at) (omega arith) (omega arith) left,
            cell_inside k (2 * n + 1) (start + 2 ^ k) from to (right_half k n start from to at) left (omega arith),
          )
          | no right ↦
              let mid : 2 * n + 1 ≤ down k from = omega (arith, up_le_down k from) in
              omega (
                arith,
                both,
                more,
                cell_past k (2 * n) start from to (left_half k n start from to at) mid,
                visits_from k (2 * n + 1) (start + 2 ^ k) from to (right_half k n start from to at) (omega arith) mid (omega arith),
              )
        ]
  ]
]

-- the span begins at or before the cell's start, and ends inside it or at a border
visits_to : (k n start from to : ℕ) → start ≡ n * 2 ^ k → up k from ≤ n → n ≤ down k to → up k to ≤ n + 1 → cell_visits k start from to ≡ 1 + 2 * count k to
unfolding cell_visits count down up
visits_to zero n start from to at begun a b = refl
visits_to (suc k) n start from to at begun a b = elim (dec_le (n + 1) (down (suc k) to)) [
  | yes end ↦ omega (arith, cell_inside (suc k) n start from to at begun end, count_border (suc k) (n + 1) to b end)
  | no earlier ↦ elim (dec_le (up (suc k) to) n) [
    | yes none ↦ omega (arith, cell_before (suc k) n start from to at none, count_border (suc k) n to none a)
    | no later ↦
        let both = cell_to_halves k n start from to at (omega arith) (omega arith) (omega (arith, up_le (suc k) from n begun, pow_pos (suc k))) in
        let more = count_more k n to (omega arith) (omega arith) in
        elim (dec_le (up k to) (2 * n + 1)) [
          | yes left ↦ omega (
            arith,
            both,
            more,
            visits_to k (2 * n) start from to (left_half k n start from to at) (omega arith) (omega arith) left,
            cell_before k (2 * n + 1) (start + 2 ^ k) from to (right_half k n start from to at) left,
          )
          | no right ↦
              let mid : 2 * n + 1 ≤ down k to = omega (arith, up_le_down k to) in
              omega (
                arith,
                both,
                more,
                cell_inside k (2 * n) start from to (left_half k n start from to at) (omega arith) mid,
                visits_to k (2 * n + 1) (start + 2 ^ k) from to (right_half k n start from to at) (omega arith) mid (omega arith),
              )
        ]
  ]
]

-- where a cell's border lies between the ends, none of its level or below has both inside
splits_apart : (k m from to : ℕ) → up k from ≤ m → m ≤ down k to → splits k from to ≡ count k from + count k to
unfolding splits count down up
splits_apart zero m from to a b = refl
splits_apart (suc k) m from to a b = omega (arith, splits_apart k (2 * m) from to (omega arith) (omega arith))

-- one cell more where both ends lie strictly inside
splits_more : (k n from to : ℕ) → n ≤ down (suc k) from → down (suc k) to ≤ n → n < up (suc k) to → from ≤ to → splits (suc k) from to ≡ splits k from to + 1
unfolding splits
splits_more k n from to a b c h = omega (arith, up_le_down (suc k) to, down_mono (suc k) from to h)

-- the span begins and ends inside the cell or at its borders
visits_both : (k n start from to : ℕ) → start ≡ n * 2 ^ k → from < to → n ≤ down k from → up k to ≤ n + 1 → cell_visits k start from to ≡ 1 + 2 * splits k from to
unfolding cell_visits splits down up
visits_both zero n start from to at h a b = refl
visits_both (suc k) n start from to at h a b =
    let order : down (suc k) from ≤ down (suc k) to = down_mono (suc k) from to (omega arith) in
    elim (dec_le (up (suc k) from) n) [
      | yes begun ↦ omega (
        arith,
        visits_to (suc k) n start from to at begun (omega arith) b,
        splits_apart (suc k) n from to begun (omega arith),
        count_border (suc k) n from begun a,
      )
      | no later ↦ elim (dec_le (n + 1) (down (suc k) to)) [
        | yes end ↦
            let low : up (suc k) from ≤ n + 1 = omega (arith, up_mono (suc k) from to (omega arith)) in
            omega (
              arith,
              visits_from (suc k) n start from to at end a low,
              splits_apart (suc k) (n + 1) from to low end,
              count_border (suc k) (n + 1) to b end,
            )
        | no earlier ↦
            let high : n < up (suc k) to = omega (arith, up_mono (suc k) from to (omega arith)) in
            let both = cell_to_halves k n start from to at high (omega arith) (omega (arith, cell_end (suc k) n start from to at, down_lt (suc k) from (n + 1) (omega arith))) in
            let more = splits_more k n from to a (omega arith) high (omega arith) in
            let left = left_half k n start from to at in
            let right = right_half k n start from to at in
            elim (dec_le (up k to) (2 * n + 1)) [
              | yes before ↦ omega (
                arith,
                both,
                more,
                visits_both k (2 * n) start from to left h (omega arith) before,
                cell_before k (2 * n + 1) (start + 2 ^ k) from to right before,
              )
              | no past ↦ elim (dec_le (2 * n + 1) (down k from)) [
                | yes mid ↦ omega (
                  arith,
                  both,
                  more,
                  cell_past k (2 * n) start from to left mid,
                  visits_both k (2 * n + 1) (start + 2 ^ k) from to right h mid (omega arith),
                )
                | no mid ↦
                    let low : up k from ≤ 2 * n + 1 = omega (arith, up_le_down k from) in
                    let high : 2 * n + 1 ≤ down k to = omega (arith, up_le_down k to) in
                    omega (
                      arith,
                      both,
                      more,
                      visits_from k (2 * n) start from to left high (omega arith) low,
                      visits_to k (2 * n + 1) (start + 2 ^ k) from to right low high (omega arith),
                      splits_apart k (2 * n + 1) from to low high,
                    )
              ]
            ]
      ]
    ]

-- the visits of a lookup for a span that is not empty: the topmost cell, and two for each cell that has an end strictly inside
pub visits_splits : (k from to : ℕ) → from < to → to ≤ 2 ^ k → visits k from to ≡ 1 + 2 * splits k from to
unfolding visits
visits_splits k from to h top =
    rw (lt-leb to from h) (visits_both k 0 0 from to (sym (zero-mul (2 ^ k))) h (omega arith) (le_up k to 1 (rw (one-mul (2 ^ k)) top)))

-- ---- counting by trailing zeros

pub zeros_even : (i n : ℕ) → n % 2 ≡ 0 → count_trailing_zeros (suc i) n ≡ suc (count_trailing_zeros i (n / 2))
unfolding count_trailing_zeros
zeros_even i n e = rw e

pub zeros_odd : (i n : ℕ) → n % 2 ≡ 1 → count_trailing_zeros (suc i) n ≡ 0
unfolding count_trailing_zeros
zeros_odd i n e = rw e

-- the zeros among fewer digits
pub zeros_within : (k d n : ℕ) → k ≤ d → count_trailing_zeros k n ≡ min k (count_trailing_zeros d n)
unfolding count_trailing_zeros
zeros_within zero d n h = omega arith
zeros_within (suc k) zero n h = absurd (omega arith)
zeros_within (suc k) (suc d) n h = elim (ℕ_discrete (n % 2) 0) [
  | yes even ↦ rw even (omega (arith, zeros_within k d (n / 2) (omega arith)))
  | no odd ↦ let one : n % 2 ≡ 1 = omega arith in rw one (omega arith)
]

later : (j i : ℕ) → j + suc i ≡ suc j + i
later j i = omega arith

module _ (x : ℕ) where
  -- once x lies strictly inside a cell, it does on every level above
  count_rest : (i j : ℕ) → down j x < up j x → count (j + i) x ≡ count j x + i
  unfolding count down up
  count_rest zero j h = rw (add-zero j) (omega arith)
  count_rest (suc i) j h = rw (later j i) (count_rest i (suc j) (omega (arith, up_le_down j x)) ∙ omega (arith, up_le_down j x))

  -- from the start of cell n of level j on: the levels past the trailing zeros of n
  count_from : (i j n : ℕ) → up j x ≡ n → down j x ≡ n → count (j + i) x ≡ count j x + (i - count_trailing_zeros i n)
  unfolding count down up
  count_from zero j n a b = rw (add-zero j) (omega arith)
  count_from (suc i) j n a b = rw (later j i) (elim (ℕ_discrete (n % 2) 0) [
    | yes even ↦ omega (arith, zeros_even i n even, count_from i (suc j) (n / 2) (omega arith) (omega arith))
    | no odd ↦ omega (arith, zeros_odd i n (omega arith), count_rest i (suc j) (omega arith))
  ])

  count_zeros : (k : ℕ) → count k x ≡ k - count_trailing_zeros k x
  unfolding count down up
  count_zeros k = omega (arith, rw (zero-add k) at (count_from k 0 x refl refl))

module _ (from to : ℕ) (h : from ≤ to) where
  -- once both ends lie strictly inside one cell, they do on every level above
  splits_rest : (i j n : ℕ) → up j from ≡ n + 1 → down j to ≡ n → splits (j + i) from to ≡ splits j from to + i
  unfolding splits down up
  splits_rest zero j n a b = rw (add-zero j) (omega arith)
  splits_rest (suc i) j n a b = rw (later j i)
      (splits_rest i (suc j) (n / 2) (omega arith) (omega arith)
      ∙ omega (arith, up_le_down j from, up_le_down j to, down_mono j from to h, up_mono j from to h))

  -- both ends lie strictly inside one cell first on the level above an odd border
  splits_odd : (i j n : ℕ) → up j from ≡ n → down j to ≡ n → n % 2 ≡ 1 → splits (suc j + i) from to + suc i ≡ count (suc j + i) from + count (suc j + i) to
  unfolding splits count down up
  splits_odd i j n a b odd =
      let from_up : up (suc j) from ≡ n / 2 + 1 = omega arith in
      let from-down : down (suc j) from ≡ n / 2 = omega (arith, up_le_down j from, down_mono j from to h) in
      let to-up : up (suc j) to ≡ n / 2 + 1 = omega (arith, up_le_down j to, up_mono j from to h) in
      let to-down : down (suc j) to ≡ n / 2 = omega arith in
      let more-from : count (suc j) from ≡ count j from + 1 = omega arith in
      let more-to : count (suc j) to ≡ count j to + 1 = omega arith in
      let more : splits (suc j) from to ≡ splits j from to + 1 = omega arith in
      omega (arith, splits_rest i (suc j) (n / 2) from_up to-down, count_rest from i (suc j) (omega arith), count_rest to i (suc j) (omega arith), splits_apart j n from to (omega arith) (omega arith))

  -- from the level on which the ends meet at the start of cell n: they share a cell on the levels past the trailing zeros of n
  splits_from : (i j n : ℕ) → up j from ≡ n → down j to ≡ n → splits (j + i) from to + (i - count_trailing_zeros i n) ≡ count (j + i) from + count (j + i) to
  unfolding splits count down up
  splits_from zero j n a b = rw (add-zero j) (omega (arith, splits_apart j n from to (omega arith) (omega arith)))
  splits_from (suc i) j n a b = rw (later j i) (elim (ℕ_discrete (n % 2) 0) [
    | yes even ↦ omega (arith, zeros_even i n even, splits_from i (suc j) (n / 2) (omega arith) (omega arith))
    | no odd ↦ let one : n % 2 ≡ 1 = omega arith in rw (zeros_odd i n one, sub-zero (suc i)) (splits_odd i j n a b one)
  ])

  -- where a border of a level lies between the ends, one of each level below it does
  splits_below : (i k m : ℕ) → up (k + i) from ≤ m → m ≤ down (k + i) to → splits k from to ≡ count k from + count k to
  unfolding down up
  splits_below zero k m a b = splits_apart k m from to (rw (add-zero k) at a) (rw (add-zero k) at b)
  splits_below (suc i) k m a b = splits_below i k (2 * m) (omega (arith, rw (add-suc k i) at a)) (omega (arith, rw (add-suc k i) at b))

  -- the cells with both ends inside are counted twice among those with an end inside
  splits_met : (k level node : ℕ) → node ≡ up level from → node ≡ down level to → splits k from to + (k - level - count_trailing_zeros (k - level) node) ≡ count k from + count k to
  splits_met k level node a b = elim (dec_le level k) [
    | yes within ↦
        let top : level + (k - level) ≡ k = omega arith in
        rw top at (splits_from (k - level) level node (sym a) (sym b))
    | no past ↦
        let top : k + (level - k) ≡ level = omega arith in
        let none : k - level ≡ 0 = omega arith in
        omega (arith, splits_below (level - k) k node (rw top (omega arith)) (rw top (omega arith)))
  ]

inside_levels : (below k x : ℕ) → k ≤ 64 → k - below - count_trailing_zeros (k - below) x ≡ levels_inside below k x
unfolding levels_inside
inside_levels below k x h = omega (arith, zeros_within (k - below) 64 x (omega arith))

inside_all : (k x : ℕ) → k ≤ 64 → count k x ≡ levels_inside 0 k x
inside_all k x h = count_zeros x k ∙ rw (sub-zero k) at (inside_levels 0 k x h)

-- the visits, where the ends meet at a border of some level
pub visits_met : (k from to level node : ℕ) → k ≤ 64 → from < to → to ≤ 2 ^ k → node ≡ up level from → node ≡ down level to → 1 + 2 * (levels_inside 0 k from + levels_inside 0 k to - levels_inside level k node) ≡ visits k from to
visits_met k from to level node fits h top a b =
    let met : splits k from to + levels_inside level k node ≡ count k from + count k to = rw (inside_levels level k node fits) at (splits_met from to (omega arith) k level node a b) in
    let ends : splits k from to + levels_inside level k node ≡ levels_inside 0 k from + levels_inside 0 k to = omega (arith, inside_all k from fits, inside_all k to fits) in
    omega (arith, ends, visits_splits k from to h top)
