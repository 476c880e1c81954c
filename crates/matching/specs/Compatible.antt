-- Compatible jobs, those that may print in one pass: neither is solo, they are in one window, and they share (document 01, "Rival plans and the cut", as 2026-05 changed it).
use Rattle.std.specs.Prelude.{ℕ, ◌≤◌, ◌<◌, ◌≡◌, Bool, ◌&&◌}
use Rattle.std.proofs.Math.Path.{refl}
use Rattle.std.proofs.Common.{sym, ◌∙◌}
use Rattle.std.proofs.Math.Bool.{true, false, not, and-false, and_comm, and-eq-true_iff}
use borrow.Author.Tests.{eqb-true, eq-eqb}
use Rattle.model.specs.Jobs.{Table, jobs, bottom, solo, bare, asks, window, same_window, shares, highest_depth}
use Rattle.model.specs.Greedy.{compatible}
use Rattle.model.specs.Rival.{Pair, Rules}
use Rattle.laws.specs.Booleans.{same_test, T_true}
use Rattle.tree_laws.specs.WellFormed.{Tree}
use Rattle.tree_laws.specs.Sharing.{Downward, bare_is, bare_alone, shares_symmetric, strong_elimination}
use Rattle.matching.specs.Matchings.{Fits}
use Rattle.matching.specs.Exchange.{StrongElimination}

module _ (tb : Table) where
  -- one window is one number
  pub window_same : (i j : ℕ) → same_window tb i j ≡ true → window tb i ≡ window tb j
  unfolding same_window
  window_same i j e = eqb-true (window tb i) (window tb j) e

  pub same_window_lem : (i j : ℕ) → window tb i ≡ window tb j → same_window tb i j ≡ true
  unfolding same_window
  same_window_lem i j e = eq-eqb (window tb i) (window tb j) e

  same_symmetric : (i j : ℕ) → same_window tb i j ≡ same_window tb j i
  same_symmetric i j = same_test (same_window tb i j) (same_window tb j i) (λ e. same_window_lem j i (sym (window_same i j e))) (λ e. same_window_lem i j (sym (window_same j i e)))

  -- what the test says
  pub compatible_true : (i j : ℕ) → compatible tb i j ≡ true → (not (solo tb i) ≡ true) × (not (solo tb j) ≡ true) × (same_window tb i j ≡ true) × (shares tb i j ≡ true)
  unfolding compatible
  compatible_true i j e =
      let c = (and-eq-true_iff (not (solo tb i) && not (solo tb j) && same_window tb i j) (shares tb i j)).0 e in
      let w = (and-eq-true_iff (not (solo tb i) && not (solo tb j)) (same_window tb i j)).0 c.0 in
      let s = (and-eq-true_iff (not (solo tb i)) (not (solo tb j))).0 w.0 in
      (s.0, s.1, w.1, c.1)

  -- and what makes it pass
  pub true_compatible : (i j : ℕ) → not (solo tb i) ≡ true → not (solo tb j) ≡ true → same_window tb i j ≡ true → shares tb i j ≡ true → compatible tb i j ≡ true
  unfolding compatible
  true_compatible i j a b c d = rw (a, b, c, d) refl

  -- so the two of a pair that keeps the rules fit, where P holds of both
  pub rules_fit : (P : ℕ → Type 0) (p : Pair) → Rules tb p → P p.one → P p.other → Fits (compatible tb) P p
  rules_fit P p r one_in other_in = record {
    one_in = one_in;
    other_in = other_in;
    differ = r.differ;
    fits = true_compatible p.one p.other (T_true (not (solo tb p.one)) r.one_not_solo) (T_true (not (solo tb p.other)) r.other_not_solo) (T_true (same_window tb p.one p.other) r.same_window) (T_true (shares tb p.one p.other) r.share);
  }

  -- they are compatible if both ask, are in one window and share: a job 0-0 shares with none
  pub compatible_asks : Tree tb.parents → (i j : ℕ) → Downward tb i → Downward tb j → compatible tb i j ≡ (asks tb i && asks tb j && same_window tb i j && shares tb i j)
  unfolding compatible asks
  compatible_asks t i j a b = either (solo tb i) (solo tb j) (bare tb i) (bare tb j) (same_window tb i j) (shares tb i j) (alone i j a) (λ e. shares_symmetric tb i j ∙ alone j i b e)
    where
      alone : (i j : ℕ) → Downward tb i → bare tb i ≡ true → shares tb i j ≡ false
      alone i j a e = bare_alone tb t i j a (eqb-true (bottom tb i) 0 (sym (bare_is tb t i a) ∙ e))

      either : (s s' b b' w share : Bool) → (b ≡ true → share ≡ false) → (b' ≡ true → share ≡ false) → (not s && not s' && w && share) ≡ ((not s && not b) && (not s' && not b') && w && share)
      either s s' true b' w share h k = rw (h refl, and-false (not s && not s' && w), and-false ((not s && not true) && (not s' && not b') && w)) refl
      either s s' false true w share h k = rw (k refl, and-false (not s && not s' && w), and-false ((not s && not false) && (not s' && not true) && w)) refl
      either true s' false false w share h k = refl
      either false true false false w share h k = refl
      either false false false false w share h k = refl

  -- two jobs are compatible one way round as they are the other
  pub compatible_symmetric : (i j : ℕ) → compatible tb i j ≡ compatible tb j i
  unfolding compatible
  compatible_symmetric i j = rw (shares_symmetric tb i j, same_symmetric i j, and_comm (not (solo tb i)) (not (solo tb j))) refl

  -- in the order of falling depth of highest layout they eliminate strongly: none of them is solo, all are in one window, and sharing does
  pub compatible_eliminates : Tree tb.parents → ((j : ℕ) → j < jobs tb → Downward tb j) → StrongElimination (λ (j : ℕ). j < jobs tb) (highest_depth tb) (compatible tb)
  compatible_eliminates t down = record { symmetric = λ i j h k e. compatible_symmetric j i ∙ e; eliminates = eliminates }
    where
      eliminates :
          (v j x y : ℕ)
          → v < jobs tb
          → j < jobs tb
          → x < jobs tb
          → y < jobs tb
          → highest_depth tb j ≤ highest_depth tb v
          → highest_depth tb y ≤ highest_depth tb v
          → highest_depth tb x ≤ highest_depth tb j
          → compatible tb v j ≡ true
          → compatible tb v x ≡ true
          → compatible tb j y ≡ true
          → compatible tb y x ≡ true
      eliminates v j x y hv hj hx hy jv yv xj e f g =
          let vj = compatible_true v j e in
          let vx = compatible_true v x f in
          let jy = compatible_true j y g in
          let one : window tb y ≡ window tb x = sym (window_same j y jy.2) ∙ sym (window_same v j vj.2) ∙ window_same v x vx.2 in
          true_compatible y x jy.1 vx.1 (same_window_lem y x one) (strong_elimination tb t v j x y (down v hv) (down j hj) (down x hx) (down y hy) jv yv xj vj.3 vx.3 jy.3)
