-- Laws of the verdict of settling, refusal by refusal, and of its outcome.
use Rattle.std.proofs.Common.{ℕ, ◌<◌, ◌≤◌, ◌≡◌, ◌⊎◌, inl, inr, List, [], ◌++◌, map, take, drop, length, get_or, Result, sym, ◌∙◌, arith, length-take, ext_get_or, lt-ltb, le-ltb}
use Rattle.std.proofs.lemmas.List.{length-map, get_or-take}
use Rattle.model.specs.Lists.{numbers}
use Rattle.laws.specs.Numbers.{numbers_length, numbers_at}
use Rattle.model.specs.Verdict.{Verdict, accepted, refused, gives, refuses}
use Rattle.model.specs.Tree.{settle_verdict, depth, first_leaf, last_leaf}
use Rattle.model.specs.Answers.{settled_answer}
use Rattle.model.specs.Outcomes.{SettledAs}
use Rattle.model.specs.declared.Refusal.{Refusal}
use Rattle.settle.specs.Checked.{layouts_verdict}

module _ (ps : List ℕ) (a b c : ℕ) where
  -- a result has no cell for some layout
  pub short : (a < length ps) ⊎ ((length ps ≤ a × b < length ps) ⊎ (length ps ≤ a × length ps ≤ b × c < length ps)) → settle_verdict ps a b c ≡ refused 8 0
  unfolding settle_verdict
  short (inl h) = rw (lt-ltb a (length ps) h)
  short (inr (inl h)) = rw (le-ltb a (length ps) h.0, lt-ltb b (length ps) h.1)
  short (inr (inr h)) = rw (le-ltb a (length ps) h.0, le-ltb b (length ps) h.1, lt-ltb c (length ps) h.2)

  -- with room for each layout it is the verdict on the layouts
  pub roomy : length ps ≤ a → length ps ≤ b → length ps ≤ c → settle_verdict ps a b c ≡ layouts_verdict ps
  unfolding settle_verdict
  roomy h k l = rw (le-ltb a (length ps) h, le-ltb b (length ps) k, le-ltb c (length ps) l)

-- the first n cells hold what f says there
pub column : (n : ℕ) (f : ℕ → ℕ) (cells : List ℕ) → n ≤ length cells → ((x : ℕ) → x < n → get_or cells x 0 ≡ f x) → take n cells ≡ map f (numbers n)
column n f cells room holds = ext_get_or 0 (take n cells) (map f (numbers n)) (rw (length-take n cells, length-map (numbers n) f, numbers_length n) (omega arith)) at
  where
    at : (i : ℕ) → i < length (take n cells) → get_or (take n cells) i 0 ≡ get_or (map f (numbers n)) i 0
    at i h =
        let inside : i < n = omega (arith, length-take n cells) in
        get_or-take n cells i 0 inside ∙ holds i inside ∙ sym (numbers_at f n i 0 inside)

module _ (ps depths firsts lasts : List ℕ) (r : Result Unit Refusal) where
  -- a refusal leaves every buffer as it was
  pub refused_as : (v : Verdict) (number place : ℕ) → v ≡ refused number place → settled_answer r ≡ refuses number place → SettledAs v ps depths firsts lasts r depths firsts lasts
  refused_as v number place e a = record { answered = rw e a; depths_hold = rw e; firsts_hold = rw e; lasts_hold = rw e }

  -- an accepted tree has its three results
  pub settled_as : (v : Verdict) → v ≡ accepted → settled_answer r ≡ gives [] → (depths' firsts' lasts' : List ℕ) → depths' ≡ map (depth ps) (numbers (length ps)) ++ drop (length ps) depths → firsts' ≡ map (first_leaf ps) (numbers (length ps)) ++ drop (length ps) firsts → lasts' ≡ map (last_leaf ps) (numbers (length ps)) ++ drop (length ps) lasts → SettledAs v ps depths firsts lasts r depths' firsts' lasts'
  settled_as v e answered depths' firsts' lasts' d f l = record { answered = rw e answered; depths_hold = rw e d; firsts_hold = rw e f; lasts_hold = rw e l }
