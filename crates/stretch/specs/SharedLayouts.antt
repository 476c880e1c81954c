-- For two jobs' paths written from top to bottom the shared stretch holds exactly the shared layouts other than 0, from the highest to the deepest (document 01, "Shared
-- stretch", as 2026-02 changed it).
use Rattle.std.specs.Prelude.{ℕ, suc, pred, ◌<◌, ◌≡◌, refl, ◌&&◌, length, get_or, take}
use Rattle.std.proofs.Common.{sym, ◌∙◌, subst, ⊎_elim, arith, length-append, eq-eqb, ne_eqb}
use Rattle.std.proofs.Math.Path.{ap}
use Rattle.std.proofs.Math.Bool.{and-eq-true_iff}
use mathlib.Core.List.Memᴰ
use mathlib.Core.List.Memᴰ.{head as here}
use mathlib.Core.List.Memᴰ.{tail as there}
use mathlib.Core.List.{List, [], ◌∷◌, ◌++◌, head_d, reverse, reverse-cons, Memᴰ as Mem}
use Rattle.std.proofs.Math.Decide.{dec_lt, ℕ_discrete}
use Rattle.std.proofs.Math.ListN.{get_or-append}
use Rattle.std.proofs.Math.Seq.{get_or-append_seam}
use Rattle.model.specs.Lists.{elem, last_d, AllPairs, without}
use Rattle.model.specs.Tree.{FFFF}
use Rattle.model.specs.Jobs.{Table, bottom, path, path_from, own_path, shared_layouts, highest_shared, deepest_shared}
use Rattle.model.specs.Stretch.{leading, stretch_of, numbers_of, dropped, kept}
use Rattle.laws.specs.Lists.{all_mem, elem_mem, mem_elem, get_d_mem, sorted_same}
use Rattle.laws.specs.Without.{without_none, without_drop}
use Rattle.laws.specs.Reversed.{mem_reverse, reverse_mem, reverse_pairwise, reverse_head, reverse_last, reverse_without}
use Rattle.laws.specs.Places.{take_pairwise}
use Rattle.laws.specs.Booleans.{same_test}
use Rattle.tree_laws.specs.WellFormed.{Tree}
use Rattle.tree_laws.specs.Ancestors.{AncestorOrSelf, self, up}
use Rattle.tree_laws.specs.Paths.{path_one, path_up}
use Rattle.tree_laws.specs.Sharing.{Downward, own, own_none}
use Rattle.tree_laws.specs.Shared.{path_falls, own_falls, shared_falls, shared_mem, mem_shared}
use Rattle.stretch.specs.StretchLaws.{stretch_cases}
use Rattle.stretch.specs.StretchPaths.{Stands, Descending, shared_in_stretch, stretch_in_both}

-- a path from top to bottom that ends at b
record Descent (ps : List ℕ) (b : ℕ) (xs : List ℕ) : Type 0 where
  some : 0 < length xs
  bottommost : get_or xs (pred (length xs)) 0 ≡ b
  descending : Descending (λ (x : ℕ). get_or ps x 0) xs

module _ (ps : List ℕ) (t : Tree ps) where
  one : (b : ℕ) → Descent ps b (b ∷ [])
  one b =
      record {
        some = omega arith;
        bottommost = refl;
        descending = record { next = λ k h. absurd (omega arith); rising = λ k h. absurd (omega arith) };
      }

  -- one layout further down
  further : (b : ℕ) (xs : List ℕ) → 0 < b → Descent ps (get_or ps b 0) xs → Descent ps b (xs ++ b ∷ [])
  further b xs h d =
      record {
        some = rw (length-append xs (b ∷ [])) (omega arith);
        bottommost = ap (λ (n : ℕ). get_or (xs ++ b ∷ []) n 0) last ∙ get_or-append_seam xs b [] 0;
        descending = record { next = next; rising = rising };
      }
    where
      longer : length (xs ++ b ∷ []) ≡ suc (length xs)
      longer = length-append xs (b ∷ []) ∙ omega arith

      last : pred (length (xs ++ b ∷ [])) ≡ length xs
      last = rw longer refl

      inside : (k : ℕ) → k < length xs → get_or (xs ++ b ∷ []) k 0 ≡ get_or xs k 0
      inside k l = get_or-append xs (b ∷ []) 0 k l

      seam : (k : ℕ) → suc k ≡ length xs → get_or (xs ++ b ∷ []) (suc k) 0 ≡ b
      seam k e = ap (λ (n : ℕ). get_or (xs ++ b ∷ []) n 0) e ∙ get_or-append_seam xs b [] 0

      upper : (k : ℕ) → suc k ≡ length xs → get_or (xs ++ b ∷ []) k 0 ≡ get_or ps b 0
      upper k e =
          let before : pred (length xs) ≡ k = omega arith in
          inside k (omega arith) ∙ ap (λ (n : ℕ). get_or xs n 0) (sym before) ∙ d.bottommost

      next : (k : ℕ) → suc k < length (xs ++ b ∷ []) → get_or ps (get_or (xs ++ b ∷ []) (suc k) 0) 0 ≡ get_or (xs ++ b ∷ []) k 0
      next k l = elim (dec_lt (suc k) (length xs)) [
        | yes less ↦ rw (inside (suc k) less, inside k (omega arith)) (d.descending.next k less)
        | no end ↦ let e : suc k ≡ length xs = omega (arith, longer) in ap (λ (x : ℕ). get_or ps x 0) (seam k e) ∙ sym (upper k e)
      ]

      rising : (k : ℕ) → suc k < length (xs ++ b ∷ []) → get_or (xs ++ b ∷ []) k 0 < get_or (xs ++ b ∷ []) (suc k) 0
      rising k l = elim (dec_lt (suc k) (length xs)) [
        | yes less ↦ rw (inside (suc k) less, inside k (omega arith)) (d.descending.rising k less)
        | no end ↦ let e : suc k ≡ length xs = omega (arith, longer) in rw (seam k e, upper k e) (t.smaller b h)
      ]

  -- a path, turned round, descends to its bottom
  descent : {u b : ℕ} → AncestorOrSelf ps u b → Descent ps b (reverse (path_from ps u b))
  descent (self {x = b}) = rw (path_one ps t b) (one b)
  descent (up {u = u} {x = b} h a) =
      rw (path_up ps t u b h a, reverse-cons b (path_from ps u (get_or ps b 0)))
      (further b (reverse (path_from ps u (get_or ps b 0))) h (descent a))

-- ---- members and places

mem_stands : {x : ℕ} {l : List ℕ} → Mem x l → Stands x l
mem_stands (here e) = record { place = 0; within = omega arith; here = sym e }
mem_stands (there m) = let s = mem_stands m in record { place = suc s.place; within = omega (arith, s.within); here = s.here }

stands_mem : {x : ℕ} {l : List ℕ} → Stands x l → Mem x l
stands_mem {x} {l} s = subst (λ (y : ℕ). Mem y l) s.here (get_d_mem l s.place 0 s.within)

-- ---- a leading 0

-- numbers that rise lose every 0 with a leading one
kept_rising : (xs : List ℕ) → AllPairs (λ (x y : ℕ). x < y) xs → kept xs ≡ without 0 xs
unfolding dropped
kept_rising [] r = sym (without_none 0 [] (λ x m. absurd (Memᴰ.not-nil m)))
kept_rising (x ∷ xs) r = elim (ℕ_discrete x 0) [
  | yes e ↦ rw (eq-eqb x 0 e, e, without_drop 0 xs) (sym (without_none 0 xs (λ y m z. omega (arith, all_mem (λ (y : ℕ). x < y) r.0 m))))
  | no e ↦ rw (ne_eqb x 0 e) (sym (without_none 0 (x ∷ xs) (λ y m z. ⊎_elim (λ (same : y ≡ x). e (sym same ∙ z)) (λ n. omega (arith, all_mem (λ (y : ℕ). x < y) r.0 n)) (Memᴰ.cases_cons m))))
]

-- ---- the law

-- a job's path, written from top to bottom
abbrev pub path_down : Table → ℕ → List ℕ
path_down tb j = reverse (path tb j)

-- the shared stretch of the paths of two jobs
abbrev pub stretch_of_paths : Table → ℕ → ℕ → List ℕ
stretch_of_paths tb i j = numbers_of (stretch_of (kept (path_down tb i)) (kept (path_down tb j))) (kept (path_down tb i)) (kept (path_down tb j))

module _ (tb : Table) (t : Tree tb.parents) where
  -- a path loses layout 0, and with it all that no pair prints on
  kept_path : (j : ℕ) → Downward tb j → kept (path_down tb j) ≡ reverse (own_path tb j)
  unfolding own_path path
  kept_path j down = kept_rising (path_down tb j) (reverse_pairwise (λ (x y : ℕ). y < x) (path tb j) (path_falls tb.parents t down)) ∙ reverse_without 0 (path tb j)

  own_descends : (j : ℕ) → Downward tb j → Descending (λ (y : ℕ). get_or tb.parents y 0) (reverse (own_path tb j))
  own_descends j down = elim (ℕ_discrete (bottom tb j) 0) [
    | yes none ↦ rw (own_none tb t j down none) (record { next = λ k h. absurd (omega arith); rising = λ k h. absurd (omega arith) })
    | no some ↦ let o = own tb t j down (omega arith) in rw o.path_is (descent tb.parents t o.above).descending
  ]

  module _ (i j : ℕ) (down-i : Downward tb i) (down-j : Downward tb j) where
    stretch_own : stretch_of_paths tb i j ≡ numbers_of (stretch_of (reverse (own_path tb i)) (reverse (own_path tb j))) (reverse (own_path tb i)) (reverse (own_path tb j))
    stretch_own = rw (kept_path i down-i, kept_path j down-j) refl

    in_both : (x : ℕ) → Mem x (stretch_of_paths tb i j) → Mem x (own_path tb i) × Mem x (own_path tb j)
    in_both x m =
        let both = stretch_in_both (reverse (own_path tb i)) (reverse (own_path tb j)) x (mem_stands (rw stretch_own at m)) in
        (reverse_mem (own_path tb i) (stands_mem both.0), reverse_mem (own_path tb j) (stands_mem both.1))

    in-stretch : (x : ℕ) → Mem x (own_path tb i) → Mem x (own_path tb j) → Mem x (stretch_of_paths tb i j)
    in-stretch x m n =
        rw stretch_own
        (stands_mem (shared_in_stretch (λ (y : ℕ). get_or tb.parents y 0) (reverse (own_path tb i)) (reverse (own_path tb j)) (own_descends i down-i) (own_descends j down-j) x
        (mem_stands (mem_reverse (own_path tb i) m))
        (mem_stands (mem_reverse (own_path tb j) n))))

    -- a layout is in the stretch exactly if it is on both paths and is not layout 0
    pub shared_layouts_lem : (x : ℕ) → elem x (stretch_of_paths tb i j) ≡ (elem x (own_path tb i) && elem x (own_path tb j))
    shared_layouts_lem x =
        same_test (elem x (stretch_of_paths tb i j)) (elem x (own_path tb i) && elem x (own_path tb j))
        (λ e. let both = in_both x (elem_mem x (stretch_of_paths tb i j) e) in (and-eq-true_iff (elem x (own_path tb i)) (elem x (own_path tb j))).1 (mem_elem both.0, mem_elem both.1))
        (λ e. let both = (and-eq-true_iff (elem x (own_path tb i)) (elem x (own_path tb j))).0 e in mem_elem (in-stretch x (elem_mem x (own_path tb i) both.0) (elem_mem x (own_path tb j) both.1)))

    -- it is the shared layouts, from the highest down
    pub stretch_shared : stretch_of_paths tb i j ≡ reverse (shared_layouts tb i j)
    stretch_shared =
        sorted_same (λ (x y : ℕ). x < y) (λ x y p q. omega (arith, p, q)) (stretch_of_paths tb i j) (reverse (shared_layouts tb i j)) rising
        (reverse_pairwise (λ (x y : ℕ). y < x) (shared_layouts tb i j) (shared_falls tb t i j down-i))
        (λ x m. let both = in_both x m in mem_reverse (shared_layouts tb i j) (mem_shared tb i j both.0 both.1))
        (λ x m. let both = shared_mem tb i j (reverse_mem (shared_layouts tb i j) m) in in-stretch x both.0 both.1)
      where
        own_rises : (j : ℕ) → Downward tb j → (n : ℕ) → AllPairs (λ (x y : ℕ). x < y) (take n (reverse (own_path tb j)))
        own_rises j down n = take_pairwise (λ (x y : ℕ). x < y) n (reverse (own_path tb j)) (reverse_pairwise (λ (x y : ℕ). y < x) (own_path tb j) (own_falls tb t j down))

        rising : AllPairs (λ (x y : ℕ). x < y) (stretch_of_paths tb i j)
        rising =
            rw stretch_own
            (stretch_cases (λ s. AllPairs (λ (x y : ℕ). x < y) (numbers_of s (reverse (own_path tb i)) (reverse (own_path tb j)))) (reverse (own_path tb i)) (reverse (own_path tb j))
            (own_rises i down-i (leading (reverse (own_path tb i)) (reverse (own_path tb j))))
            (own_rises j down-j (leading (reverse (own_path tb j)) (reverse (own_path tb i))))
            (own_rises i down-i 0))

    -- so it begins at the highest and ends at the deepest
    pub stretch_begins : head_d (stretch_of_paths tb i j) FFFF ≡ highest_shared tb i j
    unfolding highest_shared
    stretch_begins = ap (λ (l : List ℕ). head_d l FFFF) stretch_shared ∙ reverse_head (shared_layouts tb i j) FFFF

    pub stretch_ends : last_d (stretch_of_paths tb i j) FFFF ≡ deepest_shared tb i j
    unfolding deepest_shared
    stretch_ends = ap (λ (l : List ℕ). last_d l FFFF) stretch_shared ∙ reverse_last (shared_layouts tb i j) FFFF
