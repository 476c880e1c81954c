-- The exchange at one step of the greedy rule (003, section 3; 000, Theorem 4): v takes j, the first later vertex that it fits with, and whatever a matching used the two for, one pair
-- less does without them. For any test of two vertices with strong elimination along an order; the tree enters nowhere.
-- Assumes the laws of `StrongElimination`.
use Rattle.std.specs.Prelude.{ℕ, suc, ◌≤◌, ◌≡◌, refl, ◌⊎◌, ◌≢◌, Bool, true, false, ◌||◌, length, eqb}
use Rattle.std.proofs.Common.{sym, ap, ◌∙◌, inl, inr, ⊎_elim, true≢false, arith, ne_eqb}
use Rattle.std.proofs.Math.Bool.{or_comm, or_assoc}
use Rattle.std.proofs.Math.Option.{none, some}
use mathlib.Core.List.Memᴰ.{tail as there}
use mathlib.Core.List.{List, ◌∷◌, Memᴰ as Mem}
use Rattle.std.proofs.Math.Decide.{ℕ_discrete}
use Rattle.model.specs.Lists.{any_of, find, All, AllPairs, without}
use Rattle.model.specs.Rival.{Pair, in_pair}
use Rattle.laws.specs.Lists.{all_mem, mem_all, mem_rest, find_some, find_none, find_first}
use Rattle.laws.specs.Without.{without_mem, mem_without, without_pairwise}
use Rattle.matching.specs.Matchings.{one_paired, other_paired, Except, Without, Matching, Mated, more, single_out, third_paired, single_or_mated}

-- a test of two vertices, of those that `Vertex` holds of, that eliminates strongly in the order of falling D (000, Definition 11)
pub record StrongElimination (Vertex : ℕ → Type 0) (D : ℕ → ℕ) (fit : ℕ → ℕ → Bool) : Type 0 where
  pub symmetric : (i j : ℕ) → Vertex i → Vertex j → fit i j ≡ true → fit j i ≡ true
  pub eliminates :
      (v j x y : ℕ)
      → Vertex v
      → Vertex j
      → Vertex x
      → Vertex y
      → D j ≤ D v
      → D y ≤ D v
      → D x ≤ D j
      → fit v j ≡ true
      → fit v x ≡ true
      → fit j y ≡ true
      → fit y x ≡ true

-- a later vertex has no greater D
abbrev pub Falls : (ℕ → ℕ) → ℕ → ℕ → Type 0
Falls D x y = D y ≤ D x

-- vertices in an order along which D falls, each with the relation `Before` to every later one
pub record InOrder (Vertex : ℕ → Type 0) (D : ℕ → ℕ) (Before : ℕ → ℕ → Type 0) (vs : List ℕ) : Type 0 where
  pub known : All Vertex vs
  pub falls : AllPairs (Falls D) vs
  pub before : AllPairs Before vs

-- one that `ours` pairs and the rival leaves single comes before p
pub record Earlier (Before : ℕ → ℕ → Type 0) (ours rival : List Pair) (p : ℕ) : Type 0 where
  pub vertex : ℕ
  pub before : Before vertex p
  pub ours_pairs : in_pair ours vertex ≡ true
  pub rival_leaves : in_pair rival vertex ≡ false

-- what is left of the pairs ps among the vertices that `Left` holds of, once `taken` is a pair: at most one pair fewer. Each other vertex is paired as in ps, unless one of the
-- two that were taken is single in ps and comes before it
pub record Remaining (fit : ℕ → ℕ → Bool) (Before : ℕ → ℕ → Type 0) (taken : Pair) (Left : ℕ → Type 0) (ps : List Pair) : Type 0 where
  pub rest : List Pair
  pub matching : Matching fit Left rest
  pub fewer : length ps ≤ suc (length rest)
  pub alike : (ours : List Pair) (z : ℕ) → z ≢ taken.one → z ≢ taken.other → (in_pair ps z ≡ in_pair rest z) ⊎ Earlier Before (taken ∷ ours) ps z

module _ (Vertex : ℕ → Type 0) (D : ℕ → ℕ) (Before : ℕ → ℕ → Type 0) where
  -- the later vertices are in order
  pub later_order : {v : ℕ} {vs : List ℕ} → InOrder Vertex D Before (v ∷ vs) → InOrder Vertex D Before vs
  later_order o = record { known = o.known.1; falls = o.falls.1; before = o.before.1 }

  -- and so are all but one
  pub others_order : (j : ℕ) (vs : List ℕ) → InOrder Vertex D Before vs → InOrder Vertex D Before (without j vs)
  others_order j vs o = record {
    known = mem_all Vertex (without j vs) (λ z m. all_mem Vertex o.known (without_mem j vs m).0);
    falls = without_pairwise (Falls D) j vs o.falls;
    before = without_pairwise Before j vs o.before;
  }

module _ (Vertex : ℕ → Type 0) (D : ℕ → ℕ) (fit : ℕ → ℕ → Bool) (laws : StrongElimination Vertex D fit) where
  -- v fits with no later vertex: no pair uses it
  pub unused : (v : ℕ) (vs : List ℕ) → All Vertex (v ∷ vs) → find (fit v) vs ≡ none → (ps : List Pair) → Matching fit (λ (z : ℕ). Mem z (v ∷ vs)) ps → Matching fit (λ (z : ℕ). Mem z vs) ps
  unused v vs known e ps m =
      ⊎_elim
      (λ (n : Matching fit (Except (λ (z : ℕ). Mem z (v ∷ vs)) v) ps). more fit (Except (λ (z : ℕ). Mem z (v ∷ vs)) v) (λ (z : ℕ). Mem z vs) (λ z h. mem_rest h.0 h.1) ps n)
      (λ (x : Mated fit (λ (z : ℕ). Mem z (v ∷ vs)) v ps). absurd (true≢false (sym x.fits ∙ find_none (fit v) (mem_rest x.mate_in_lem x.apart) e)))
      (single_or_mated fit (λ (z : ℕ). Mem z (v ∷ vs)) (λ i k h l. laws.symmetric i k (all_mem Vertex known h) (all_mem Vertex known l)) v ps m)

-- v has mate x, and j has mate y in the other pairs: with y and x as a pair instead all but v and j are paired as before
recombined : (v j x y : ℕ) (others rest : List Pair) (z : ℕ) → z ≢ v → z ≢ j → in_pair others z ≡ in_pair (record { one = j; other = y } ∷ rest) z → in_pair (record { one = v; other = x } ∷ others) z ≡ in_pair (record { one = y; other = x } ∷ rest) z
unfolding in_pair any_of
recombined v j x y others rest z h k e =
    ap (λ (b : Bool). eqb z v || eqb z x || b) e
    ∙ rw (ne_eqb z v h, ne_eqb z j k) (sym (or_assoc (eqb z x) (eqb z y) (in_pair rest z)) ∙ ap (λ (b : Bool). b || in_pair rest z) (or_comm (eqb z x) (eqb z y)))

module _ (Vertex : ℕ → Type 0) (D : ℕ → ℕ) (fit : ℕ → ℕ → Bool) (laws : StrongElimination Vertex D fit) (Before : ℕ → ℕ → Type 0) (differ : (x y : ℕ) → Before x y → x ≢ y) where
  -- the step of v, where j is found among the later vertices vs
  module _ (v : ℕ) (vs : List ℕ) (o : InOrder Vertex D Before (v ∷ vs)) (j : ℕ) (found : find (fit v) vs ≡ some j) where
    -- the vertices at the step, those after it, and the pair that it makes
    abbrev Now : ℕ → Type 0
    Now z = Mem z (v ∷ vs)

    abbrev Left : ℕ → Type 0
    Left z = Mem z (without j vs)

    abbrev taken : Pair
    taken = record { one = v; other = j }

    vertex : (z : ℕ) → Now z → Vertex z
    vertex z m = all_mem Vertex o.known m

    turn : (i k : ℕ) → Now i → Now k → fit i k ≡ true → fit k i ≡ true
    turn i k m n = laws.symmetric i k (vertex i m) (vertex k n)

    stays : (z : ℕ) → Without Now v j z → Left z
    stays z h = mem_without j (mem_rest h.0 h.1) h.2

    j_later : Mem j vs
    j_later = (find_some (fit v) vs found).0

    v_before : (z : ℕ) → Mem z vs → Before v z
    v_before z m = all_mem (Before v) o.before.0 m

    -- what else fits with v comes after j
    j_first : (R : ℕ → ℕ → Type 0) → AllPairs R vs → (x : ℕ) → Without Now v j x → fit v x ≡ true → R j x
    j_first R order x h t = ⊎_elim (λ (e : x ≡ j). absurd (h.2 e)) (λ (r : R j x). r) (find_first (fit v) R order (mem_rest h.0 h.1) found t)

    -- strong elimination: what v and j are paired with, another two, fit with each other
    others_fit : (x y : ℕ) → Without Now v j x → Without Now v j y → fit v x ≡ true → fit j y ≡ true → fit y x ≡ true
    others_fit x y hx hy tx ty =
        laws.eliminates v j x y o.known.0 (vertex j (there j_later)) (vertex x hx.0) (vertex y hy.0)
        (all_mem (Falls D v) o.falls.0 j_later) (all_mem (Falls D v) o.falls.0 (mem_rest hy.0 hy.1)) (j_first (Falls D) o.falls.1 x hx tx)
        (find_some (fit v) vs found).1 tx ty

    module _ (ps : List Pair) where
      -- all but w are paired as in ps, and before w comes v or j, single in ps
      alike_but :
          (rest : List Pair) (w : ℕ)
          → ((z : ℕ) → z ≢ v → z ≢ j → z ≢ w → in_pair ps z ≡ in_pair rest z)
          → ((ours : List Pair) → Earlier Before (taken ∷ ours) ps w)
          → (ours : List Pair) (z : ℕ)
          → z ≢ v
          → z ≢ j
          → (in_pair ps z ≡ in_pair rest z) ⊎ Earlier Before (taken ∷ ours) ps z
      alike_but rest w same e ours z h k = elim (ℕ_discrete z w) [
        | yes s ↦ inr (rw s (e ours))
        | no n ↦ inl (same z h k n)
      ]

      -- v is single: j may have a mate
      v_single : Matching fit (Except Now v) ps → Matching fit (Except (Except Now v) j) ps ⊎ Mated fit (Except Now v) j ps → Remaining fit Before taken Left ps
      v_single m (inl n) = record {
        rest = ps;
        matching = more fit (Except (Except Now v) j) Left (λ z h. stays z (h.0.0, h.0.1, h.1)) ps n;
        fewer = omega arith;
        alike = λ ours z h k. inl refl;
      }
      v_single m (inr y) = record {
        rest = y.others;
        matching = more fit (Without (Except Now v) j y.mate) Left (λ z h. stays z (h.0.0, h.0.1, h.1)) y.others y.matching;
        fewer = omega (arith, y.one_fewer);
        alike = alike_but y.others y.mate (λ z h k n. third_paired fit (Except Now v) j ps y z k n)
            (λ ours. record { vertex = v; before = v_before y.mate (mem_rest y.mate_in_lem.0 y.mate_in_lem.1); ours_pairs = one_paired taken ours; rival_leaves = single_out fit Now v ps m });
      }

      -- v has a mate other than j: j may have one too, and then the two mates make a pair instead
      module _ (x : Mated fit Now v ps) (not-j : x.mate ≢ j) where
        x_left : Without Now v j x.mate
        x_left = (x.mate_in_lem, x.apart, not-j)

        v_mated : Matching fit (Except (Without Now v x.mate) j) x.others ⊎ Mated fit (Without Now v x.mate) j x.others → Remaining fit Before taken Left ps
        v_mated (inl n) = record {
          rest = x.others;
          matching = more fit (Except (Without Now v x.mate) j) Left (λ z h. stays z (h.0.0, h.0.1, h.1)) x.others n;
          fewer = omega (arith, x.one_fewer);
          alike = alike_but x.others x.mate (λ z h k n. third_paired fit Now v ps x z h n) (λ ours. record {
            vertex = j;
            before = j_first Before o.before.1 x.mate x_left x.fits;
            ours_pairs = other_paired taken ours;
            rival_leaves = third_paired fit Now v ps x j (λ e. differ v j (v_before j j_later) (sym e)) (λ e. not-j (sym e)) ∙ single_out fit (Without Now v x.mate) j x.others n;
          });
        }
        v_mated (inr y) =
            let y-left : Without Now v j y.mate = (y.mate_in_lem.0, y.mate_in_lem.1, y.apart) in
            record {
              rest = record { one = y.mate; other = x.mate } ∷ y.others;
              matching = (
                record { one_in = stays y.mate y-left; other_in = stays x.mate x_left; differ = y.mate_in_lem.2; fits = others_fit x.mate y.mate x_left y-left x.fits y.fits },
                more fit (Without (Without Now v x.mate) j y.mate) (Without Left y.mate x.mate) (λ z h. (stays z (h.0.0, h.0.1, h.1), h.2, h.0.2)) y.others y.matching,
              );
              fewer = omega (arith, x.one_fewer, y.one_fewer);
              alike = λ ours z h k. inl (x.same z ∙ recombined v j x.mate y.mate x.others y.others z h k (y.same z));
            }

      -- whatever ps uses v and j for
      pub exchange : Matching fit Now ps → Remaining fit Before taken Left ps
      exchange m = step_of_v (single_or_mated fit Now turn v ps m)
        where
          step_of_v : Matching fit (Except Now v) ps ⊎ Mated fit Now v ps → Remaining fit Before taken Left ps
          step_of_v (inl n) = v_single n (single_or_mated fit (Except Now v) (λ i k h l. turn i k h.0 l.0) j ps n)
          step_of_v (inr x) = elim (ℕ_discrete x.mate j) [
            | yes e ↦ record {
              rest = x.others;
              matching = more fit (Without Now v x.mate) Left (λ z h. stays z (h.0, h.1, λ q. h.2 (q ∙ sym e))) x.others x.matching;
              fewer = omega (arith, x.one_fewer);
              alike = λ ours z h k. inl (third_paired fit Now v ps x z h (λ q. k (q ∙ e)));
            }
            | no k ↦ v_mated x k (single_or_mated fit (Without Now v x.mate) (λ i l h n. turn i l h.0 n.0) j x.others x.matching)
          ]
