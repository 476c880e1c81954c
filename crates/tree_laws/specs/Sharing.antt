-- Which jobs share (document 01, "The tree and the running order", as 2026-01 changed it; 000, Theorem 6 and Appendix B), for jobs whose bottom is at or below their
-- top. What 000 says of a job's top holds of its highest layout other than 0.
use Rattle.std.specs.Prelude.{ℕ, ◌≤◌, ◌<◌, ◌≡◌, true, false, cond, ◌&&◌, ◌↔◌, length, eqb, leb}
use Rattle.std.proofs.Math.Path.{refl}
use Rattle.std.proofs.Common.{◌∙◌, arith}
use Rattle.std.proofs.Math.Bool.{and-false}
use mathlib.Core.List.{[], Memᴰ as Mem}
use Rattle.std.proofs.Math.Decide.{ℕ_discrete, dec_le}
use borrow.Author.Tests.{eq-eqb, ne_eqb}
use Rattle.model.specs.Lists.{elem, last_d, any_of}
use Rattle.model.specs.Tree.{depth, first_leaf, last_leaf}
use Rattle.model.specs.Jobs.{Table, top, bottom, path_from, path, own_path, bare, highest, highest_depth, shares, bottom_leaf}
use Rattle.laws.specs.Booleans.{same_test, one_answer}
use Rattle.laws.specs.Lists.{elem_mem, mem_elem, any_mem, mem_any}
use Rattle.tree_laws.specs.WellFormed.{Tree}
use Rattle.tree_laws.specs.Ancestors.{AncestorOrSelf, self, ancestor_trans, ancestor_le, ancestor_linear}
use Rattle.tree_laws.specs.Spans.{InSpan, in_span, first_le_last, in-span-true, true_in_span, ancestor_span, span_ancestor}
use Rattle.tree_laws.specs.Paths.{path_ancestor, ancestor_path, path_last}
use Rattle.tree_laws.specs.Branches.{branch, branch_root, branch_ancestor, path_bare, path_proper, path_branch}

-- a job whose bottom is at or below its top
abbrev pub Downward : Table → ℕ → Type 0
Downward tb j = AncestorOrSelf tb.parents (top tb j) (bottom tb j)

-- a job that has a layout other than 0: its own path leads from its bottom up to its highest layout
pub record Own (tb : Table) (j : ℕ) : Type 0 where
  pub some : 0 < highest tb j
  pub above : AncestorOrSelf tb.parents (highest tb j) (bottom tb j)
  pub path_is : own_path tb j ≡ path_from tb.parents (highest tb j) (bottom tb j)

module _ (tb : Table) (t : Tree tb.parents) (j : ℕ) (down : Downward tb j) where
  -- an own path up to u leads up to the highest layout
  own_to : {u : ℕ} → 0 < u → AncestorOrSelf tb.parents u (bottom tb j) → own_path tb j ≡ path_from tb.parents u (bottom tb j) → (highest tb j ≡ u) × Own tb j
  unfolding highest
  own_to {u} h a e =
      let last : highest tb j ≡ u = rw e (path_last tb.parents t 0 a) in
      (last, record { some = rw last h; above = rw last a; path_is = rw last e })

  -- that is the top, or the branch of the bottom where the top is layout 0
  own_top : 0 < top tb j → (highest tb j ≡ top tb j) × Own tb j
  unfolding own_path path
  own_top h = own_to h down (path_proper tb.parents t h down)

  own_branch : top tb j ≡ 0 → 0 < bottom tb j → (highest tb j ≡ branch tb.parents (bottom tb j)) × Own tb j
  unfolding own_path path
  own_branch e h =
      let b = branch_ancestor tb.parents t (bottom tb j) h in
      own_to b.1 b.0 (rw e (path_branch tb.parents t (bottom tb j) h))

  pub own : 0 < bottom tb j → Own tb j
  own h = elim (ℕ_discrete (top tb j) 0) [
    | yes e ↦ (own_branch e h).1
    | no e ↦ (own_top (omega arith)).1
  ]

  -- a job whose bottom is layout 0 has nothing on its own path
  pub own_none : bottom tb j ≡ 0 → own_path tb j ≡ []
  unfolding own_path path
  own_none e =
      let top-zero : top tb j ≡ 0 = omega (arith, ancestor_le tb.parents t down) in
      rw (top-zero, e) (path_bare tb.parents t)

  -- the highest layout, by top and bottom
  pub highest_is : highest tb j ≡ cond (eqb (top tb j) 0) (branch tb.parents (bottom tb j)) (top tb j)
  unfolding highest last_d
  highest_is = elim (ℕ_discrete (top tb j) 0) [
    | yes e ↦ elim (ℕ_discrete (bottom tb j) 0) [
      | yes none ↦ rw (own_none none, eq-eqb (top tb j) 0 e, none, branch_root tb.parents t) refl
      | no some ↦ rw (eq-eqb (top tb j) 0 e) (own_branch e (omega arith)).0
    ]
    | no e ↦ rw (ne_eqb (top tb j) 0 e) (own_top (omega arith)).0
  ]

  -- it is the bottom or an ancestor of it
  pub highest_above : AncestorOrSelf tb.parents (highest tb j) (bottom tb j)
  unfolding highest last_d
  highest_above = elim (ℕ_discrete (bottom tb j) 0) [
    | yes none ↦ rw (own_none none, none) self
    | no some ↦ (own (omega arith)).above
  ]

  -- a job 0-0 is one whose bottom is layout 0
  pub bare_is : bare tb j ≡ eqb (bottom tb j) 0
  unfolding bare
  bare_is = elim (ℕ_discrete (bottom tb j) 0) [
    | yes none ↦
        let top-zero : top tb j ≡ 0 = omega (arith, ancestor_le tb.parents t down) in
        rw (eq-eqb (top tb j) 0 top-zero) refl
    | no some ↦ rw (ne_eqb (bottom tb j) 0 some) (and-false (eqb (top tb j) 0))
  ]

  -- and one that has no highest layout
  pub bare_highest : eqb (highest tb j) 0 ≡ bare tb j
  unfolding highest last_d
  bare_highest = elim (ℕ_discrete (bottom tb j) 0) [
    | yes none ↦ rw (bare_is, own_none none, eq-eqb (bottom tb j) 0 none) refl
    | no some ↦ rw (bare_is, ne_eqb (bottom tb j) 0 some) (ne_eqb (highest tb j) 0 (λ e. omega (arith, (own (omega arith)).some)))
  ]

-- layout x is not layout 0 and lies on the path of job j: between its bottom and its highest layout
pub record On (tb : Table) (x j : ℕ) : Type 0 where
  pub own_path_lem : Own tb j
  pub lower : AncestorOrSelf tb.parents x (bottom tb j)
  pub upper : AncestorOrSelf tb.parents (highest tb j) x

-- job j passes the highest layout of job i, as the numbers tell: the first leaf of its bottom lies in the span of that layout, and the depths of highest j, highest i
-- and bottom j rise
pub record Passes (tb : Table) (j i : ℕ) : Type 0 where
  pub leaf : InSpan tb.parents (bottom_leaf tb j) (highest tb i)
  pub upper : highest_depth tb j ≤ highest_depth tb i
  pub lower : highest_depth tb i ≤ depth tb.parents (bottom tb j)

-- two jobs share one way round as they do the other: a layout on both paths is on both
pub shares_symmetric : (tb : Table) (i j : ℕ) → shares tb i j ≡ shares tb j i
unfolding shares
shares_symmetric tb i j = same_test (shares tb i j) (shares tb j i) (shares_back i j) (shares_back j i)
  where
    shares_back : (i j : ℕ) → shares tb i j ≡ true → shares tb j i ≡ true
    shares_back i j e =
        let r = any_mem (λ (x : ℕ). elem x (own_path tb j)) (own_path tb i) e in
        mem_any (λ (x : ℕ). elem x (own_path tb i)) (elem_mem r.0 (own_path tb j) r.1.1) (mem_elem r.1.0)

module _ (tb : Table) (t : Tree tb.parents) where
  -- what stands on the own path of a job lies on its path and is not layout 0, and the other way round
  pub own_on : {x : ℕ} (j : ℕ) → Downward tb j → Mem x (own_path tb j) → On tb x j
  unfolding elem
  own_on {x} j down m = elim (ℕ_discrete (bottom tb j) 0) [
    | yes none ↦ absurd (one_answer (mem_elem m) (rw (own_none tb t j down none) refl))
    | no some ↦ on (own tb t j down (omega arith))
  ]
    where
      on : Own tb j → On tb x j
      on o = let p = path_ancestor tb.parents t x o.above (rw o.path_is at (mem_elem m)) in record { own_path_lem = o; lower = p.0; upper = p.1 }

  pub on_own : {x : ℕ} (j : ℕ) → On tb x j → elem x (own_path tb j) ≡ true
  on_own j p = rw p.own_path_lem.path_is (ancestor_path tb.parents t p.own_path_lem.above p.lower p.upper)

  -- jobs that share have a layout that lies on both paths
  pub shares_meet : (i j : ℕ) → Downward tb i → Downward tb j → shares tb i j ≡ true → (x : ℕ) × (On tb x i × On tb x j)
  unfolding shares
  shares_meet i j a b e =
      let r = any_mem (λ (x : ℕ). elem x (own_path tb j)) (own_path tb i) e in
      (r.0, (own_on i a r.1.0, own_on j b (elem_mem r.0 (own_path tb j) r.1.1)))

  -- and jobs with such a layout share
  pub meet_shares : {x : ℕ} (i j : ℕ) → On tb x i → On tb x j → shares tb i j ≡ true
  unfolding shares
  meet_shares {x} i j p q = mem_any (λ (x : ℕ). elem x (own_path tb j)) (elem_mem x (own_path tb i) (on_own i p)) (on_own j q)

  -- a job's highest layout is on its path
  highest_on : (i : ℕ) → Own tb i → On tb (highest tb i) i
  highest_on i o = record { own_path_lem = o; lower = o.above; upper = self }

  -- where two paths meet, the deeper highest layout lies on the path of the other: both are ancestors of the layout where they meet
  pub meet_highest : {z : ℕ} (i j : ℕ) → On tb z i → On tb z j → highest_depth tb j ≤ highest_depth tb i → On tb (highest tb i) j
  unfolding highest_depth
  meet_highest i j p q d =
      record { own_path_lem = q.own_path_lem; lower = ancestor_trans tb.parents t p.upper q.lower; upper = ancestor_linear tb.parents t q.upper p.upper d }

  -- (T) if two jobs share, the deeper highest layout lies on the path of the other
  pub highest_on_path : (i j : ℕ) → Downward tb i → Downward tb j → highest_depth tb j ≤ highest_depth tb i → shares tb i j ≡ true → On tb (highest tb i) j
  highest_on_path i j a b d e = let r = shares_meet i j a b e in meet_highest i j r.1.0 r.1.1 d

  module _ (i j : ℕ) (a : Downward tb i) (b : Downward tb j) (order : highest_depth tb j ≤ highest_depth tb i) (inside : bottom tb i < length tb.parents) (inside' : bottom tb j < length tb.parents) where
    -- 000, Theorem 6, wherever job i is not a job 0-0: the jobs share exactly if the one with the shallower highest layout passes that of the other. By (T), and (A) for its
    -- bottom
    pub theorem_6 : 0 < bottom tb i → (shares tb i j ≡ true) ↔ Passes tb j i
    unfolding highest_depth bottom_leaf
    theorem_6 some = (passes, shared)
      where
        own_i : Own tb i
        own_i = own tb t i a some

        passes : shares tb i j ≡ true → Passes tb j i
        passes e =
            let s = ancestor_span tb.parents t inside' (highest_on_path i j a b order e).lower in
            record { leaf = s.0; upper = order; lower = s.1 }

        shared : Passes tb j i → shares tb i j ≡ true
        shared p =
            let known : highest tb i < length tb.parents = omega (arith, ancestor_le tb.parents t own_i.above) in
            let above : AncestorOrSelf tb.parents (highest tb i) (bottom tb j) = span_ancestor tb.parents t known inside' p.leaf p.lower in
            let own-j : Own tb j = own tb t j b (omega (arith, own_i.some, ancestor_le tb.parents t above)) in
            meet_shares i j (highest_on i own_i) (record { own_path_lem = own-j; lower = above; upper = ancestor_linear tb.parents t own-j.above above order })

    -- the same as an equation of tests
    pub theorem_6_test : 0 < bottom tb i → shares tb i j ≡ (leb (first_leaf tb.parents (highest tb i)) (bottom_leaf tb j) && leb (bottom_leaf tb j) (last_leaf tb.parents (highest tb i)) && leb (highest_depth tb i) (depth tb.parents (bottom tb j)))
    theorem_6_test some = same_test (shares tb i j) (in_span tb.parents (bottom_leaf tb j) (highest tb i) (highest_depth tb i) (depth tb.parents (bottom tb j)))
        (λ e. let p = (theorem_6 some).0 e in true_in_span tb.parents (bottom_leaf tb j) (highest tb i) (highest_depth tb i) (depth tb.parents (bottom tb j)) p.leaf p.lower)
        (λ e. let s = in-span-true tb.parents (bottom_leaf tb j) (highest tb i) (highest_depth tb i) (depth tb.parents (bottom tb j)) e in (theorem_6 some).1 (record { leaf = s.0; upper = order; lower = s.1 }))

  -- a job 0-0 shares with none
  pub bare_alone : (i j : ℕ) → Downward tb i → bottom tb i ≡ 0 → shares tb i j ≡ false
  unfolding shares any_of
  bare_alone i j a e = rw (own_none tb t i a e) refl

  -- the exception is needed: two jobs 0-0 pass the test
  pub bare_passes : (i j : ℕ) → Downward tb i → Downward tb j → bottom tb i ≡ 0 → bottom tb j ≡ 0 → Passes tb j i
  unfolding highest_depth highest bottom_leaf last_d
  bare_passes i j a b e f =
      record {
        leaf = rw (own_none tb t i a e, f) (record { first = omega arith; last = first_le_last tb.parents t 0 t.nonempty });
        upper = rw (own_none tb t i a e, own_none tb t j b f) (omega arith);
        lower = rw (own_none tb t i a e, f) (omega arith);
      }

  -- (E) strong elimination: where j and x share with v, whose highest layout is the deepest, and y shares with j, y shares with x.
  -- If the highest layout of j is the deeper, y and x meet there. If that of y is, it lies between those of j and v, and so on the path of x
  pub strong_elimination : (v j x y : ℕ) → Downward tb v → Downward tb j → Downward tb x → Downward tb y
      → highest_depth tb j ≤ highest_depth tb v → highest_depth tb y ≤ highest_depth tb v → highest_depth tb x ≤ highest_depth tb j
      → shares tb v j ≡ true → shares tb v x ≡ true → shares tb j y ≡ true → shares tb y x ≡ true
  unfolding highest_depth
  strong_elimination v j x y av aj ax ay jv yv xj e f g = elim (dec_le (highest_depth tb y) (highest_depth tb j)) [
    | yes d ↦ meet_shares y x (highest_on_path j y aj ay d g) on_x
    | no d ↦ meet_shares y x (highest_on y own_y) (below (omega arith))
  ]
    where
      v_on_j : On tb (highest tb v) j
      v_on_j = highest_on_path v j av aj jv e

      v_on_x : On tb (highest tb v) x
      v_on_x = highest_on_path v x av ax (omega arith) f

      on_x : On tb (highest tb j) x
      on_x = meet_highest j x v_on_j v_on_x xj

      own_y : Own tb y
      own_y = (shares_meet j y aj ay g).1.1.own_path_lem

      below : highest_depth tb j ≤ highest_depth tb y → On tb (highest tb y) x
      below d =
          let y-on-j : On tb (highest tb y) j = highest_on_path y j ay aj d (shares_symmetric tb y j ∙ g) in
          let y-above-v : AncestorOrSelf tb.parents (highest tb y) (highest tb v) = ancestor_linear tb.parents t y-on-j.lower v_on_j.lower yv in
          record {
            own_path_lem = v_on_x.own_path_lem;
            lower = ancestor_trans tb.parents t y-above-v v_on_x.lower;
            upper = ancestor_trans tb.parents t on_x.upper y-on-j.upper;
          }
