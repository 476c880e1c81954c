-- What the answer of the layouts' check says of them (document 01, refusals 3 and 4): their refusal, or that they are a tree.
use Rattle.std.specs.Prelude.{ℕ, ◌<◌, ◌≤◌, ◌≡◌, refl, List, [], length, ltb}
use Rattle.std.proofs.Common.{sym, ◌∙◌, arith, lt-ltb, le-ltb}
use Rattle.std.proofs.Math.Decide.{dec_le}
use Rattle.model.specs.Verdict.{Verdict, accepted, refused, refuse_if, ◌then◌, Answer, gives, refuses, answer}
use Rattle.model.specs.Tree.{layout_limit, tree_verdict}
use Rattle.tree_laws.specs.WellFormed.{Tree, well_formed}

-- 3 over the limit, or the tree's own
abbrev pub layouts_verdict : List ℕ → Verdict
layouts_verdict ps = refuse_if (ltb layout_limit (length ps)) 3 0 then tree_verdict ps

-- the verdict behind an answer
answer_gives : (v : Verdict) (values given : List ℕ) → answer v values ≡ gives given → v ≡ accepted
answer_gives accepted values given e = refl
answer_gives (refused number place) values given e = cc

answer_refuses : (v : Verdict) (values : List ℕ) (number place : ℕ) → answer v values ≡ refuses number place → v ≡ refused number place
answer_refuses accepted values number place e = cc
answer_refuses (refused n p) values number place e = cc

module _ (ps : List ℕ) where
  pub over_limit : layout_limit < length ps → layouts_verdict ps ≡ refused 3 0
  over_limit h = rw (lt-ltb layout_limit (length ps) h)

  pub within_limit : length ps ≤ layout_limit → layouts_verdict ps ≡ tree_verdict ps
  within_limit h = rw (le-ltb layout_limit (length ps) h)

  -- the check's answer a
  module _ (a : Answer) (e : a ≡ answer (layouts_verdict ps) []) where
    pub checked_refused : (number place : ℕ) → a ≡ refuses number place → layouts_verdict ps ≡ refused number place
    checked_refused number place r = answer_refuses (layouts_verdict ps) [] number place (sym e ∙ r)

    pub checked_accepted : a ≡ gives [] → layouts_verdict ps ≡ accepted
    checked_accepted r = answer_gives (layouts_verdict ps) [] [] (sym e ∙ r)

    pub checked_tree : a ≡ gives [] → Tree ps
    checked_tree r = elim (dec_le (length ps) layout_limit) [
      | yes few ↦ well_formed ps (sym (within_limit few) ∙ checked_accepted r) few
      | no many ↦ apart (sym (over_limit (omega arith)) ∙ checked_accepted r)
    ]
      where
        apart : refused 3 0 ≡ accepted → Tree ps
        apart q = let z : ◌≡◌ {A = ℕ} 0 1 = cc in absurd (omega arith)
