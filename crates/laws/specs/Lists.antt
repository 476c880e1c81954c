-- Plain laws of lists: members, earlier and later ones, selections, lists made member by member, lists without repeats, the first that passes.
use Rattle.std.specs.Prelude.{ℕ, zero, suc, ◌+◌, ◌≤◌, ◌<◌, ◌≡◌, Bool, false, ◌⊎◌, ◌≢◌, length, get_or, eqb}
use Rattle.std.proofs.Math.Path.{refl, ap}
use Rattle.std.proofs.Common.{sym, ◌∙◌, subst, true≢false, arith, length-append, eqb-true, eq-eqb, ne_eqb}
use Rattle.std.proofs.Math.Bool.{true}
use Rattle.std.proofs.lemmas.Bool.{false≢true}
use Rattle.std.proofs.Math.Logic.{inl, inr, ⊎_elim}
use Rattle.std.proofs.Math.Option.{Option, none, some}
use mathlib.Core.List.Memᴰ.{append_cases as mem-append}
use mathlib.Core.List.Memᴰ.{append_right as mem-right}
use mathlib.Core.List.Memᴰ.{cases_cons as mem-cons}
use mathlib.Core.List.Memᴰ.{cast as mem-cast}
use mathlib.Core.List.Memᴰ.{head as here}
use mathlib.Core.List.Memᴰ.{not-nil}
use mathlib.Core.List.Memᴰ.{tail as there}
use mathlib.Core.List.{List, [], ◌∷◌, ◌++◌, map, flat_map, head_d, append_assoc, append-nil, Memᴰ as Mem}
use Rattle.std.proofs.Math.ListN.{get_or-append}
use Rattle.model.specs.Lists.{index_of, last_d, elem, any_of, select, find, total, All, AllPairs}
use Rattle.laws.specs.Booleans.{answers, or_cases, or_right}

-- ---- members

module _ {A : Type 0} where
  -- what holds of all holds of a member
  pub all_mem : (P : A → Type 0) {y : A} {l : List A} → All P l → Mem y l → P y
  all_mem P a (here {x = x} {xs = xs} e) = subst P (sym e) a.0
  all_mem P a (there {x = x} {xs = xs} m) = all_mem P a.1 m

  -- what holds of every member holds of all
  pub mem_all : (P : A → Type 0) (l : List A) → ((y : A) → Mem y l → P y) → All P l
  mem_all P [] f = tt
  mem_all P (x ∷ xs) f = (f x (here refl), mem_all P xs (λ y m. f y (there m)))

  -- and so does what follows from it
  pub all_imply : (P Q : A → Type 0) (l : List A) → ((x : A) → P x → Q x) → All P l → All Q l
  all_imply P Q [] f a = tt
  all_imply P Q (x ∷ xs) f a = (f x a.0, all_imply P Q xs f a.1)

-- a member other than the first is among the rest
pub mem_rest : {x y : ℕ} {l : List ℕ} → Mem x (y ∷ l) → x ≢ y → Mem x l
mem_rest m h = ⊎_elim (λ e. absurd (h e)) (λ m. m) (mem-cons m)

-- a member stands somewhere: what is before it, and what is after it
pub mem_split : {y : ℕ} {l : List ℕ} → Mem y l → (done : List ℕ) × (rest : List ℕ) × (l ≡ done ++ y ∷ rest)
mem_split (here {x = x} {xs = xs} e) = ([], xs, ap (λ (z : ℕ). z ∷ xs) (sym e))
mem_split (there {x = x} {xs = xs} m) = let s = mem_split m in (x ∷ s.0, s.1, ap (λ (l : List ℕ). x ∷ l) s.2)

module _ {A : Type 0} where
  -- what stands at a place of a list is a member of it
  pub get_d_mem : (l : List A) (i : ℕ) (d : A) → i < length l → Mem (get_or l i d) l
  get_d_mem [] i d h = absurd (omega arith)
  get_d_mem (x ∷ xs) zero d h = here refl
  get_d_mem (x ∷ xs) (suc i) d h = there (get_d_mem xs i d (omega arith))

  -- what holds at every place holds of all
  pub at_all : (P : A → Type 0) (l : List A) (d : A) → ((i : ℕ) → i < length l → P (get_or l i d)) → All P l
  at_all P [] d h = tt
  at_all P (x ∷ xs) d h = (h 0 (omega arith), at_all P xs d (λ i l. h (suc i) (omega arith)))

-- a list with a member has a head, which is a member too
pub head_mem : {y : ℕ} {l : List ℕ} (d : ℕ) → Mem y l → Mem (head_d l d) l
unfolding head_d
head_mem d (here e) = here refl
head_mem d (there m) = here refl

-- inside a list it does not matter what stands for a place past its end
pub get_d_inside : (l : List ℕ) (i d e : ℕ) → i < length l → get_or l i d ≡ get_or l i e
get_d_inside [] i d e h = absurd (omega arith)
get_d_inside (x ∷ xs) zero d e h = refl
get_d_inside (x ∷ xs) (suc i) d e h = get_d_inside xs i d e (omega arith)

-- ---- earlier and later members

module _ (R : ℕ → ℕ → Type 0) where
  -- a list in two parts: each part, and every member of the first with every member of the second
  pub pairwise_append : (xs ys : List ℕ) → AllPairs R xs → AllPairs R ys → ((x y : ℕ) → Mem x xs → Mem y ys → R x y) → AllPairs R (xs ++ ys)
  pairwise_append [] ys p q f = q
  pairwise_append (x ∷ xs) ys p q f = (mem_all (R x) (xs ++ ys) first, pairwise_append xs ys p.1 q (λ x y m. f x y (there m)))
    where
      first : (y : ℕ) → Mem y (xs ++ ys) → R x y
      first y m = ⊎_elim (λ (m : Mem y xs). all_mem (R x) p.0 m) (f x y (here refl)) (mem-append xs m)

  -- and back: the second part
  pub pairwise_right : (xs ys : List ℕ) → AllPairs R (xs ++ ys) → AllPairs R ys
  pairwise_right [] ys p = p
  pairwise_right (x ∷ xs) ys p = pairwise_right xs ys p.1

  -- and every member of the first with every member of the second
  pub pairwise_across : {x y : ℕ} (xs ys : List ℕ) → AllPairs R (xs ++ ys) → Mem x xs → Mem y ys → R x y
  pairwise_across [] ys p m n = absurd (not-nil m)
  pairwise_across (z ∷ xs) ys p m n = ⊎_elim (λ e. rw e (all_mem (R z) p.0 (mem-right xs n))) (λ m. pairwise_across xs ys p.1 m n) (mem-cons m)

  -- lists in one order that have the same members are the same
  pub sorted_same : ((x y : ℕ) → R x y → R y x → ⊥) → (xs ys : List ℕ) → AllPairs R xs → AllPairs R ys → ((z : ℕ) → Mem z xs → Mem z ys) → ((z : ℕ) → Mem z ys → Mem z xs) → xs ≡ ys
  sorted_same asymmetric [] [] p q f g = refl
  sorted_same asymmetric [] (y ∷ ys) p q f g = absurd (not-nil (g y (here refl)))
  sorted_same asymmetric (x ∷ xs) [] p q f g = absurd (not-nil (f x (here refl)))
  sorted_same asymmetric (x ∷ xs) (y ∷ ys) p q f g = rw same (ap (λ (l : List ℕ). y ∷ l) (sorted_same asymmetric xs ys p.1 q.1 rest back))
    where
      same : x ≡ y
      same = ⊎_elim (λ e. e) (λ m. ⊎_elim (λ e. sym e) (λ n. absurd (asymmetric x y (all_mem (R x) p.0 n) (all_mem (R y) q.0 m))) (mem-cons (g y (here refl)))) (mem-cons (f x (here refl)))

      rest : (z : ℕ) → Mem z xs → Mem z ys
      rest z m = mem_rest (f z (there m)) (λ e. let r : R x x = subst (R x) (e ∙ sym same) (all_mem (R x) p.0 m) in asymmetric _ _ r r)

      back : (z : ℕ) → Mem z ys → Mem z xs
      back z m = mem_rest (g z (there m)) (λ e. let r : R y y = subst (R y) (e ∙ same) (all_mem (R y) q.0 m) in asymmetric _ _ r r)

-- every member is the head, or the head has the relation to it
pub head_first : (R : ℕ → ℕ → Type 0) {y : ℕ} {l : List ℕ} (d : ℕ) → AllPairs R l → Mem y l → (y ≡ head_d l d) ⊎ R (head_d l d) y
unfolding head_d
head_first R d p (here e) = inl e
head_first R d p (there {x = x} m) = inr (all_mem (R x) p.0 m)

-- a relation that follows for members holds where the first holds
pub pairwise_imply : (R S : ℕ → ℕ → Type 0) (l : List ℕ) → ((x y : ℕ) → Mem x l → Mem y l → R x y → S x y) → AllPairs R l → AllPairs S l
pairwise_imply R S [] f p = tt
pairwise_imply R S (x ∷ xs) f p =
    (mem_all (S x) xs (λ y m. f x y (here refl) (there m) (all_mem (R x) p.0 m)), pairwise_imply R S xs (λ y z m n. f y z (there m) (there n)) p.1)

-- ---- what f makes of the members

-- what f makes of the members has what they have by way of f
pub map_all : {A B : Type 0} (f : A → B) (P : B → Type 0) (l : List A) → All (λ (x : A). P (f x)) l → All P (map f l)
map_all f P [] a = tt
map_all f P (x ∷ xs) a = (a.0, map_all f P xs a.1)

-- and keeps what holds of earlier and later ones by way of f
pub map_pairwise : {A B : Type 0} (f : A → B) (R : B → B → Type 0) (l : List A) → AllPairs (λ (x y : A). R (f x) (f y)) l → AllPairs R (map f l)
map_pairwise f R [] a = tt
map_pairwise f R (x ∷ xs) a = (map_all f (R (f x)) xs a.0, map_pairwise f R xs a.1)

-- ---- selections

module _ {A : Type 0} (p : A → Bool) where
  -- one step of a selection, by the test's answer
  pub select_yes : (x : A) (xs : List A) → p x ≡ true → select p (x ∷ xs) ≡ x ∷ select p xs
  unfolding select
  select_yes x xs e = rw e

  pub select_no : (x : A) (xs : List A) → p x ≡ false → select p (x ∷ xs) ≡ select p xs
  unfolding select
  select_no x xs e = rw e

  -- what is selected stood in the list and passed
  pub select_mem : {y : A} (l : List A) → Mem y (select p l) → Mem y l × (p y ≡ true)
  unfolding select
  select_mem [] m = absurd (not-nil m)
  select_mem {y} (x ∷ xs) m = ⊎_elim
      (λ (e : p x ≡ true). ⊎_elim (λ (same : y ≡ x). (here same, ap p same ∙ e)) (λ (m : Mem y (select p xs)). later (select_mem xs m)) (mem-cons (rw (select_yes x xs e) at m)))
      (λ (e : p x ≡ false). later (select_mem xs (rw (select_no x xs e) at m)))
      (answers (p x))
    where
      later : Mem y xs × (p y ≡ true) → Mem y (x ∷ xs) × (p y ≡ true)
      later s = (there s.0, s.1)

  -- what stands in the list and passes is selected
  pub mem_select : {y : A} {l : List A} → Mem y l → p y ≡ true → Mem y (select p l)
  mem_select (here {x = x} {xs = xs} e) t = rw (select_yes x xs (ap p (sym e) ∙ t)) (here e)
  mem_select (there {x = x} {xs = xs} m) t = ⊎_elim
      (λ (e : p x ≡ true). rw (select_yes x xs e) (there (mem_select m t)))
      (λ (e : p x ≡ false). rw (select_no x xs e) (mem_select m t))
      (answers (p x))

  -- a selection keeps the relation of earlier and later members
  pub select_pairwise : (R : A → A → Type 0) (l : List A) → AllPairs R l → AllPairs R (select p l)
  unfolding select
  select_pairwise R [] q = tt
  select_pairwise R (x ∷ xs) q = ⊎_elim
      (λ (e : p x ≡ true). rw (select_yes x xs e) (mem_all (R x) (select p xs) (λ y m. all_mem (R x) q.0 (select_mem xs m).0), select_pairwise R xs q.1))
      (λ (e : p x ≡ false). rw (select_no x xs e) (select_pairwise R xs q.1))
      (answers (p x))

  -- what is selected keeps what held of all, and passes
  pub selected_all : (P : A → Type 0) (l : List A) → All P l → All (λ (x : A). P x × (p x ≡ true)) (select p l)
  unfolding select
  selected_all P [] a = tt
  selected_all P (x ∷ xs) a = ⊎_elim
      (λ (e : p x ≡ true). rw e ((a.0, e), selected_all P xs a.1))
      (λ (e : p x ≡ false). rw e (selected_all P xs a.1))
      (answers (p x))

  -- where all pass, all are selected
  pub select_all : (l : List A) → All (λ (y : A). p y ≡ true) l → select p l ≡ l
  unfolding select
  select_all [] a = refl
  select_all (x ∷ xs) a = rw a.0 (ap (λ (l : List A). x ∷ l) (select_all xs a.1))

-- two tests that answer alike select alike
pub select_agree : {A : Type 0} (p q : A → Bool) (l : List A) → All (λ (x : A). p x ≡ q x) l → select p l ≡ select q l
unfolding select
select_agree p q [] a = refl
select_agree p q (x ∷ xs) a = rw (a.0, select_agree p q xs a.1) refl

-- where the last passes the test it stays the last
pub select_last : (p : ℕ → Bool) {y : ℕ} (l : List ℕ) (d e : ℕ) → Mem y l → p (last_d l d) ≡ true → last_d (select p l) e ≡ last_d l d
unfolding last_d select
select_last p [] d e m h = absurd (not-nil m)
select_last p (x ∷ xs) d e m h = passes x xs e h
  where
    passes : (x : ℕ) (xs : List ℕ) (e : ℕ) → p (last_d xs x) ≡ true → last_d (select p (x ∷ xs)) e ≡ last_d xs x
    passes x [] e h = rw h refl
    passes x (y ∷ ys) e h = ⊎_elim
        (λ (t : p x ≡ true). rw t (passes y ys x h))
        (λ (t : p x ≡ false). rw t (passes y ys e h))
        (answers (p x))

-- ---- lists made member by member

-- what stands in the whole stands in one of the lists
pub flat_mem : (f : ℕ → List ℕ) {y : ℕ} (l : List ℕ) → Mem y (flat_map f l) → (c : ℕ) × (Mem c l × Mem y (f c))
unfolding flat_map
flat_mem f [] m = absurd (not-nil m)
flat_mem f {y} (x ∷ xs) m = ⊎_elim
    (λ (m : Mem y (f x)). (x, (here refl, m)))
    (λ (m : Mem y (flat_map f xs)). let r = flat_mem f xs m in (r.0, (there r.1.0, r.1.1)))
    (mem-append (f x) m)

-- two functions that agree on the members make the same list
pub flat_agree : (f g : ℕ → List ℕ) (l : List ℕ) → ((c : ℕ) → Mem c l → f c ≡ g c) → flat_map f l ≡ flat_map g l
unfolding flat_map
flat_agree f g [] h = refl
flat_agree f g (x ∷ xs) h = rw (h x (here refl), flat_agree f g xs (λ c m. h c (there m)))

-- a list in two parts is made part by part
pub flat_append : {A : Type 0} (f : A → List ℕ) (l m : List A) → flat_map f (l ++ m) ≡ flat_map f l ++ flat_map f m
unfolding flat_map
flat_append f [] m = refl
flat_append f (x ∷ xs) m = rw (flat_append f xs m) (sym (append_assoc (f x) (flat_map f xs) (flat_map f m)))

-- of what f makes of the members
pub flat_map_map : {A B : Type 0} (g : B → List ℕ) (f : A → B) (l : List A) → flat_map g (map f l) ≡ flat_map (λ (x : A). g (f x)) l
unfolding flat_map
flat_map_map g f [] = refl
flat_map_map g f (x ∷ xs) = ap (λ (m : List ℕ). g (f x) ++ m) (flat_map_map g f xs)

-- one member more
pub flat_more : {A : Type 0} (f : A → List ℕ) (l : List A) (x : A) → flat_map f (l ++ x ∷ []) ≡ flat_map f l ++ f x
unfolding flat_map
flat_more f l x = flat_append f l (x ∷ []) ∙ ap (λ (m : List ℕ). flat_map f l ++ m) (append-nil (f x))

-- ---- no repeats

-- no number stands in the list twice
abbrev pub Distinct : List ℕ → Type 0
Distinct l = AllPairs (λ (x y : ℕ). x ≢ y) l

-- lists without repeats, no two of which have a common member, make one without repeats
pub flat_distinct : (f : ℕ → List ℕ) (l : List ℕ) → ((c : ℕ) → Mem c l → Distinct (f c)) → AllPairs (λ (c d : ℕ). (y : ℕ) → Mem y (f c) → Mem y (f d) → ⊥) l → Distinct (flat_map f l)
unfolding flat_map
flat_distinct f [] each apart = tt
flat_distinct f (x ∷ xs) each apart =
    pairwise_append (λ (x y : ℕ). x ≢ y) (f x) (flat_map f xs) (each x (here refl)) (flat_distinct f xs (λ c m. each c (there m)) apart.1) differ
  where
    differ : (y z : ℕ) → Mem y (f x) → Mem z (flat_map f xs) → y ≢ z
    differ y z m n e = let r = flat_mem f xs n in all_mem (λ (d : ℕ). (y : ℕ) → Mem y (f x) → Mem y (f d) → ⊥) apart.0 r.1.0 y m (mem-cast e r.1.1)

-- in a list without repeats a member's first place is the number of those in front of it
pub index_of_lem : (xs : List ℕ) (y : ℕ) (ys : List ℕ) → Distinct (xs ++ y ∷ ys) → index_of y (xs ++ y ∷ ys) ≡ length xs
unfolding index_of
index_of_lem [] y ys d = rw (eq-eqb y y refl)
index_of_lem (x ∷ xs) y ys d = rw (ne_eqb y x (λ e. all_mem (λ (y : ℕ). x ≢ y) d.0 (mem-right xs (here refl)) (sym e))) (ap suc (index_of_lem xs y ys d.1))

-- a list with members ends with its last
pub last_split : (x : ℕ) (xs : List ℕ) (d : ℕ) → (front : List ℕ) × (x ∷ xs ≡ front ++ last_d (x ∷ xs) d ∷ [])
unfolding last_d
last_split x [] d = ([], refl)
last_split x (y ∷ ys) d = let r = last_split y ys x in (x ∷ r.0, ap (λ (l : List ℕ). x ∷ l) r.1)

-- in a list without repeats a piece begins at its head's first place, and ends at its last's
pub first_place : (l : List ℕ) (d : ℕ) (whole before after : List ℕ) → 0 < length l → Distinct whole → whole ≡ before ++ (l ++ after) → index_of (head_d l d) whole ≡ length before
unfolding head_d
first_place [] d whole before after h k e = absurd (omega arith)
first_place (y ∷ ys) d whole before after h k e = rw e (index_of_lem before y (ys ++ after) (rw e at k))

pub last_place : (l : List ℕ) (d : ℕ) (whole before after : List ℕ) → 0 < length l → Distinct whole → whole ≡ before ++ (l ++ after) → suc (index_of (last_d l d) whole) ≡ length before + length l
last_place [] d whole before after h k e = absurd (omega arith)
last_place (y ∷ ys) d whole before after h k e =
    let s = last_split y ys d in
    let last : ℕ = last_d (y ∷ ys) d in
    let parts : whole ≡ (before ++ s.0) ++ last ∷ after = e ∙ ap (λ (l : List ℕ). before ++ (l ++ after)) s.1 ∙ simp append_assoc in
    let place : index_of last whole ≡ length (before ++ s.0) = rw parts (index_of_lem (before ++ s.0) last after (rw parts at k)) in
    omega (arith, place, length-append before s.0, ap length s.1, length-append s.0 (last ∷ []))

-- a place inside a piece holds a member of the piece
pub piece_mem : (before l after : List ℕ) (k d : ℕ) → length before ≤ k → k < length before + length l → Mem (get_or (before ++ (l ++ after)) k d) l
piece_mem [] l after k d h j = let inside : k < length l = omega arith in mem-cast (get_or-append l after d k inside) (get_d_mem l k d inside)
piece_mem (x ∷ xs) l after zero d h j = absurd (omega arith)
piece_mem (x ∷ xs) l after (suc k) d h j = piece_mem xs l after k d (omega arith) (omega arith)

-- ---- tests of members

-- `elem` finds the members, and nothing else
pub elem_mem : (y : ℕ) (l : List ℕ) → elem y l ≡ true → Mem y l
unfolding elem
elem_mem y [] e = absurd (false≢true e)
elem_mem y (x ∷ xs) e = ⊎_elim
    (λ (e : eqb y x ≡ true). here (eqb-true y x e))
    (λ (e : elem y xs ≡ true). there (elem_mem y xs e))
    (or_cases (eqb y x) (elem y xs) e)

pub mem_elem : {y : ℕ} {l : List ℕ} → Mem y l → elem y l ≡ true
unfolding elem
mem_elem {y} (here {x = x} {xs = xs} e) = rw (eq-eqb y x e)
mem_elem {y} (there {x = x} {xs = xs} m) = or_right (eqb y x) (elem y xs) (mem_elem m)

-- `any` passes exactly if a member does
pub any_mem : (p : ℕ → Bool) (l : List ℕ) → any_of p l ≡ true → (y : ℕ) × (Mem y l × (p y ≡ true))
unfolding any_of
any_mem p [] e = absurd (false≢true e)
any_mem p (x ∷ xs) e = ⊎_elim
    (λ (e : p x ≡ true). (x, (here refl, e)))
    (λ (e : any_of p xs ≡ true). let r = any_mem p xs e in (r.0, (there r.1.0, r.1.1)))
    (or_cases (p x) (any_of p xs) e)

pub mem_any : (p : ℕ → Bool) {y : ℕ} {l : List ℕ} → Mem y l → p y ≡ true → any_of p l ≡ true
unfolding any_of
mem_any p {y} (here {x = x} {xs = xs} e) h = rw (ap p (sym e) ∙ h)
mem_any p (there {x = x} {xs = xs} m) h = or_right (p x) (any_of p xs) (mem_any p m h)

-- ---- the first that passes

-- something is found or nothing
pub found_or_none : (o : Option ℕ) → ((j : ℕ) × (o ≡ some j)) ⊎ (o ≡ none)
found_or_none none = inr refl
found_or_none (some j) = inl (j, refl)

module _ (p : ℕ → Bool) where
  -- what is found stands in the list and passes
  pub find_some : (l : List ℕ) {j : ℕ} → find p l ≡ some j → Mem j l × (p j ≡ true)
  unfolding find
  find_some [] e = absurd (true≢false cc)
  find_some (x ∷ xs) {j} e = ⊎_elim
      (λ (t : p x ≡ true). let same : j ≡ x = cc in (here same, ap p same ∙ t))
      (λ (t : p x ≡ false). let r = find_some xs (rw t at e) in (there r.0, r.1))
      (answers (p x))

  -- where nothing is found nothing passes
  pub find_none : {x : ℕ} {l : List ℕ} → Mem x l → find p l ≡ none → p x ≡ false
  unfolding find
  find_none {x} (here {x = y} {xs = ys} e) f = ⊎_elim
      (λ (t : p y ≡ true). cc)
      (λ (t : p y ≡ false). ap p e ∙ t)
      (answers (p y))
  find_none (there {x = y} {xs = ys} m) f = ⊎_elim
      (λ (t : p y ≡ true). cc)
      (λ (t : p y ≡ false). find_none m (rw t at f))
      (answers (p y))

  -- what is found comes before the others that pass
  pub find_first : (R : ℕ → ℕ → Type 0) {j x : ℕ} {l : List ℕ} → AllPairs R l → Mem x l → find p l ≡ some j → p x ≡ true → (x ≡ j) ⊎ R j x
  unfolding find
  find_first R {j = j} {x = x} s (here {x = y} {xs = ys} e) f t = inl (let passed : p y ≡ true = ap p (sym e) ∙ t in cc)
  find_first R {j = j} {x = x} s (there {x = y} {xs = ys} m) f t = ⊎_elim
      (λ (c : p y ≡ true). let same : y ≡ j = cc in inr (rw (← same) (all_mem (R y) s.0 m)))
      (λ (c : p y ≡ false). find_first R s.1 m (rw c at f) t)
      (answers (p y))

  -- of two parts, the first is looked through first
  pub find_left : (xs ys : List ℕ) {j : ℕ} → find p xs ≡ some j → find p (xs ++ ys) ≡ some j
  unfolding find
  find_left [] ys e = absurd (true≢false cc)
  find_left (x ∷ xs) ys e = ⊎_elim
      (λ (t : p x ≡ true). rw t (rw t at e))
      (λ (t : p x ≡ false). rw t (find_left xs ys (rw t at e)))
      (answers (p x))

  -- and then the second
  pub find_right : (xs ys : List ℕ) → find p xs ≡ none → find p (xs ++ ys) ≡ find p ys
  unfolding find
  find_right [] ys e = refl
  find_right (x ∷ xs) ys e = ⊎_elim
      (λ (t : p x ≡ true). absurd (true≢false cc))
      (λ (t : p x ≡ false). rw t (find_right xs ys (rw t at e)))
      (answers (p x))

-- two tests that answer alike find alike
pub find_agree : {A : Type 0} (p q : A → Bool) (l : List A) → All (λ (x : A). p x ≡ q x) l → find p l ≡ find q l
unfolding find
find_agree p q [] a = refl
find_agree p q (x ∷ xs) a = rw (a.0, find_agree p q xs a.1) refl

-- ---- sums

-- one member more adds its number
pub total_more : {A : Type 0} (f : A → ℕ) (l : List A) (x : A) → total f (l ++ x ∷ []) ≡ total f l + f x
unfolding total
total_more f [] x = omega arith
total_more f (y ∷ l) x = omega (arith, total_more f l x)
