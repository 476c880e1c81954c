-- Laws of cells written one by one: what a store adds, how two writings follow one another, and what a whole writing leaves.
use Rattle.std.specs.Prelude.{ℕ, ◌+◌, ◌-◌, ◌<◌, ◌≤◌, ◌≡◌, refl, Bool, true, false, cond, ◌||◌, List, ◌++◌, map, length, get_or, set, drop, eqb, ltb}
use Rattle.std.proofs.Common.{sym, ap, ◌∙◌, arith, length-append, length-drop, get_or-set_same, get_or-set_other, ext_get_or, get_or-append-add, get_or-drop, lt-ltb, le-ltb, eq-eqb, ne_eqb}
use Rattle.std.proofs.Math.Decide.{ℕ_discrete, dec_lt}
use Rattle.std.proofs.lemmas.List.{length-map}
use Rattle.std.proofs.Math.ListN.{get_or-append}
use Rattle.model.specs.Lists.{numbers}
use Rattle.laws.specs.Numbers.{numbers_length, numbers_at}
use Rattle.settle.specs.Numbering.{Stamped, below}

-- the same cells under another test
pub stamped_as : (p q : ℕ → Bool) (f : ℕ → ℕ) (old new : List ℕ) → ((y : ℕ) → p y ≡ q y) → Stamped p f old new → Stamped q f old new
stamped_as p q f old new e s y = rw (← (e y)) (s y)

-- a store of what f says
pub stamped_set : (p : ℕ → Bool) (f : ℕ → ℕ) (old new : List ℕ) (x v : ℕ) → x < length new → v ≡ f x → Stamped p f old new → Stamped (λ (y : ℕ). eqb y x || p y) f old (set new x v)
stamped_set p f old new x v h e s y = elim (ℕ_discrete y x) [
  | yes same ↦ rw (same, get_or-set_same new x v 0 h, eq-eqb x x refl) e
  | no other ↦ rw (get_or-set_other new x y v 0 other, ne_eqb y x other) (s y)
]

joined : (p q : Bool) (a b : ℕ) → cond q a (cond p a b) ≡ cond (p || q) a b
joined true true a b = refl
joined true false a b = refl
joined false true a b = refl
joined false false a b = refl

-- one writing after another
pub stamped_then : (p q : ℕ → Bool) (f : ℕ → ℕ) (a b c : List ℕ) → Stamped p f a b → Stamped q f b c → Stamped (λ (y : ℕ). p y || q y) f a c
stamped_then p q f a b c s t y = t y ∙ rw (s y) (joined (p y) (q y) (f y) (get_or a y 0))

-- what is written at one of the first n
pub stamped_at : (n : ℕ) (f : ℕ → ℕ) (old new : List ℕ) → Stamped (below n) f old new → (y : ℕ) → y < n → get_or new y 0 ≡ f y
stamped_at n f old new s y h = s y ∙ rw (lt-ltb y n h)

-- one cell more
pub one_more : (x y : ℕ) → (eqb y x || ltb y x) ≡ ltb y (x + 1)
one_more x y = elim (ℕ_discrete y x) [
  | yes same ↦ rw (eq-eqb y x same, lt-ltb y (x + 1) (omega arith))
  | no other ↦ rw (ne_eqb y x other) (elim (dec_lt y x) [
    | yes less ↦ rw (lt-ltb y x less, lt-ltb y (x + 1) (omega arith))
    | no more ↦ rw (le-ltb y x (omega arith), le-ltb y (x + 1) (omega arith))
  ])
]

-- every cell below n written with what f says there, and no other
pub stamped_all : (n : ℕ) (f g : ℕ → ℕ) (old new : List ℕ) → n ≤ length old → length new ≡ length old → ((y : ℕ) → y < n → g y ≡ f y) → Stamped (below n) g old new → new ≡ map f (numbers n) ++ drop n old
stamped_all n f g old new room same agree s = ext_get_or 0 new (map f (numbers n) ++ drop n old) lengths at
  where
    head_length : length (map f (numbers n)) ≡ n
    head_length = length-map (numbers n) f ∙ numbers_length n

    lengths : length new ≡ length (map f (numbers n) ++ drop n old)
    lengths = rw (length-append (map f (numbers n)) (drop n old), head_length, length-drop n old) (omega arith)

    past : (i : ℕ) → n ≤ i → get_or (map f (numbers n) ++ drop n old) i 0 ≡ get_or old i 0
    past i h =
        let e : i ≡ length (map f (numbers n)) + (i - n) = rw head_length (omega arith) in
        let back : n + (i - n) ≡ i = omega arith in
        ap (λ (k : ℕ). get_or (map f (numbers n) ++ drop n old) k 0) e ∙ get_or-append-add (map f (numbers n)) (drop n old) (i - n) 0 ∙ get_or-drop n old (i - n) 0 ∙ ap (λ (k : ℕ). get_or old k 0) back

    at : (i : ℕ) → i < length new → get_or new i 0 ≡ get_or (map f (numbers n) ++ drop n old) i 0
    at i h = elim (dec_lt i n) [
      | yes less ↦ s i ∙ rw (lt-ltb i n less, get_or-append (map f (numbers n)) (drop n old) 0 i (rw head_length less)) (agree i less ∙ sym (numbers_at f n i 0 less))
      | no more ↦ s i ∙ rw (le-ltb i n (omega arith)) (sym (past i (omega arith)))
    ]
