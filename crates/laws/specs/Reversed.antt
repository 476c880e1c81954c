-- Lists turned round.
use Rattle.std.specs.Prelude.{ℕ, ◌≡◌, refl}
use Rattle.std.proofs.Common.{sym, ap, ◌∙◌, ⊎_elim}
use mathlib.Core.List.Memᴰ
use mathlib.Core.List.Memᴰ.{head as here}
use mathlib.Core.List.Memᴰ.{tail as there}
use mathlib.Core.List.{List, [], ◌∷◌, ◌++◌, head_d, reverse, reverse-cons, append_assoc, append-nil, Memᴰ as Mem}
use Rattle.std.proofs.Math.Decide.{ℕ_discrete}
use Rattle.model.specs.Lists.{last_d, AllPairs, select, without}
use Rattle.laws.specs.Lists.{all_mem, pairwise_append}
use Rattle.laws.specs.Without.{without_append, without_drop, without_keep}

-- the same members
pub mem_reverse : {x : ℕ} (l : List ℕ) → Mem x l → Mem x (reverse l)
mem_reverse [] m = m
mem_reverse {x} (y ∷ l) m =
    rw (reverse-cons y l)
    (⊎_elim (λ (e : x ≡ y). Memᴰ.append_right (reverse l) (here e)) (λ (n : Mem x l). Memᴰ.append_left (y ∷ []) (mem_reverse l n)) (Memᴰ.cases_cons m))

pub reverse_mem : {x : ℕ} (l : List ℕ) → Mem x (reverse l) → Mem x l
reverse_mem [] m = m
reverse_mem {x} (y ∷ l) m =
    let n : Mem x (reverse l ++ y ∷ []) = rw (reverse-cons y l) at m in
    ⊎_elim (λ (a : Mem x (reverse l)). there (reverse_mem l a)) (λ (b : Mem x (y ∷ [])). here (Memᴰ.eq_of_singleton b)) (Memᴰ.append_cases (reverse l) n)

-- what held of earlier and later ones holds of later and earlier ones
pub reverse_pairwise : (R : ℕ → ℕ → Type 0) (l : List ℕ) → AllPairs R l → AllPairs (λ (x y : ℕ). R y x) (reverse l)
reverse_pairwise R [] p = tt
reverse_pairwise R (x ∷ l) p =
    rw (reverse-cons x l)
    (pairwise_append (λ (x y : ℕ). R y x) (reverse l) (x ∷ []) (reverse_pairwise R l p.1) (tt, tt) (λ y z m n. rw (Memᴰ.eq_of_singleton n) (all_mem (R x) p.0 (reverse_mem l m))))

-- the first is the last
pub reverse_head : (l : List ℕ) (d : ℕ) → head_d (reverse l) d ≡ last_d l d
unfolding head_d last_d
reverse_head [] d = refl
reverse_head (x ∷ l) d = ap (λ (m : List ℕ). head_d m d) (sym (append-nil (reverse (x ∷ l)))) ∙ before x l []
  where
    before : (x : ℕ) (l more : List ℕ) → head_d (reverse (x ∷ l) ++ more) d ≡ last_d l x
    before x [] more = refl
    before x (y ∷ l) more = rw (reverse-cons x (y ∷ l), append_assoc (reverse (y ∷ l)) (x ∷ []) more) (before y l (x ∷ more))

-- and the last the first
pub reverse_last : (l : List ℕ) (d : ℕ) → last_d (reverse l) d ≡ head_d l d
unfolding head_d last_d
reverse_last [] d = refl
reverse_last (x ∷ l) d = rw (reverse-cons x l) (after (reverse l) d)
  where
    after : (m : List ℕ) (d : ℕ) → last_d (m ++ x ∷ []) d ≡ x
    after [] d = refl
    after (y ∷ m) d = after m y

-- a list without one number, turned round
without_nothing : (j : ℕ) → without j [] ≡ []
unfolding without select
without_nothing j = refl

pub reverse_without : (j : ℕ) (l : List ℕ) → without j (reverse l) ≡ reverse (without j l)
reverse_without j [] = without_nothing j ∙ ap reverse (sym (without_nothing j))
reverse_without j (x ∷ l) = rw (reverse-cons x l, without_append j (reverse l) (x ∷ [])) (elim (ℕ_discrete x j) [
  | yes e ↦ rw (e, without_drop j [], without_drop j l) (ap (λ (m : List ℕ). without j (reverse l) ++ m) (without_nothing j) ∙ append-nil (without j (reverse l)) ∙ reverse_without j l)
  | no e ↦ rw (without_keep j x [] e, without_keep j x l e, reverse-cons x (without j l)) (ap (λ (m : List ℕ). m ++ x ∷ without j []) (reverse_without j l) ∙ ap (λ (m : List ℕ). reverse (without j l) ++ x ∷ m) (without_nothing j))
])
