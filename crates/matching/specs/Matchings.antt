-- Matchings: pairs that fit, no two of which have a common vertex. Who is paired in one, and what is left of one without the pair of some vertex.
-- Assumes nothing of the test of two vertices, but for `single-or-mated` that it can be turned round.
use Rattle.std.specs.Prelude.{ℕ, suc, ◌≤◌, ◌≡◌, refl, ◌⊎◌, ◌≢◌, Bool, true, false, ◌||◌, length, eqb}
use Rattle.std.proofs.Common.{sym, ap, ◌∙◌, inl, inr, arith, eqb-true, eq-eqb, ne_eqb}
use Rattle.std.proofs.Math.Logic.{⊎_elim}
use Rattle.std.proofs.lemmas.Bool.{false≢true}
use Rattle.std.proofs.Math.Bool.{or-true, or_comm, or_assoc}
use mathlib.Core.List.Memᴰ.{not-nil}
use mathlib.Core.List.{List, [], ◌∷◌, Memᴰ as Mem}
use Rattle.std.proofs.Math.Decide.{ℕ_discrete}
use Rattle.model.specs.Lists.{any_of, All, AllPairs}
use Rattle.model.specs.Rival.{Pair, NoCommonJob, in_pair}
use Rattle.laws.specs.Booleans.{answers, one_answer, or_cases}

-- ---- who is paired

-- who is paired is one of the first pair, or one of the others has it
pub paired_cases : (p : Pair) (ps : List Pair) (z : ℕ) → in_pair (p ∷ ps) z ≡ true → ((z ≡ p.one) ⊎ (z ≡ p.other)) ⊎ (in_pair ps z ≡ true)
unfolding in_pair any_of
paired_cases p ps z e = ⊎_elim
    (λ (t : (eqb z p.one || eqb z p.other) ≡ true). inl (⊎_elim (λ u. inl (eqb-true z p.one u)) (λ u. inr (eqb-true z p.other u)) (or_cases (eqb z p.one) (eqb z p.other) t)))
    inr
    (or_cases (eqb z p.one || eqb z p.other) (in_pair ps z) e)

-- both of the first pair are paired
pub one_paired : (p : Pair) (ps : List Pair) → in_pair (p ∷ ps) p.one ≡ true
unfolding in_pair any_of
one_paired p ps = rw (eq-eqb p.one p.one refl) refl

pub other_paired : (p : Pair) (ps : List Pair) → in_pair (p ∷ ps) p.other ≡ true
unfolding in_pair any_of
other_paired p ps = rw (eq-eqb p.other p.other refl, or-true) refl

-- so one that is single is neither of them
pub single_apart : (p : Pair) (ps : List Pair) (z : ℕ) → in_pair (p ∷ ps) z ≡ false → (z ≢ p.one) × (z ≢ p.other)
single_apart p ps z e = (λ same. one_answer (ap (in_pair (p ∷ ps)) same ∙ one_paired p ps) e, λ same. one_answer (ap (in_pair (p ∷ ps)) same ∙ other_paired p ps) e)

-- and one that is neither of them is paired where the others have it
pub apart_paired : (p : Pair) (ps : List Pair) (z : ℕ) → z ≢ p.one → z ≢ p.other → in_pair (p ∷ ps) z ≡ in_pair ps z
unfolding in_pair any_of
apart_paired p ps z h k = rw (ne_eqb z p.one h, ne_eqb z p.other k) refl

-- the order of the two in a pair, and of the pairs, does not matter
turned_paired : (i j : ℕ) (ps : List Pair) (z : ℕ) → in_pair (record { one = i; other = j } ∷ ps) z ≡ in_pair (record { one = j; other = i } ∷ ps) z
unfolding in_pair any_of
turned_paired i j ps z = ap (λ (b : Bool). b || in_pair ps z) (or_comm (eqb z i) (eqb z j))

behind_paired : (p q : Pair) (ps qs : List Pair) (z : ℕ) → in_pair ps z ≡ in_pair (q ∷ qs) z → in_pair (p ∷ ps) z ≡ in_pair (q ∷ p ∷ qs) z
unfolding in_pair any_of
behind_paired p q ps qs z e =
    let in_p : Bool = eqb z p.one || eqb z p.other in
    let in-q : Bool = eqb z q.one || eqb z q.other in
    ap (λ (b : Bool). in_p || b) e ∙ sym (or_assoc in_p in-q (in_pair qs z)) ∙ ap (λ (b : Bool). b || in_pair qs z) (or_comm in_p in-q) ∙ or_assoc in-q in_p (in_pair qs z)

-- ---- matchings

-- a pair of two different vertices that P holds of and that fit
pub record Fits (fit : ℕ → ℕ → Bool) (P : ℕ → Type 0) (p : Pair) : Type 0 where
  pub one_in : P p.one
  pub other_in : P p.other
  pub differ : p.one ≢ p.other
  pub fits : fit p.one p.other ≡ true

-- what is left of P without a, and without a and b
abbrev pub Except : (ℕ → Type 0) → ℕ → ℕ → Type 0
Except P a z = P z × (z ≢ a)

abbrev pub Without : (ℕ → Type 0) → ℕ → ℕ → ℕ → Type 0
Without P a b z = P z × (z ≢ a) × (z ≢ b)

-- pairs that fit, each of which takes its two vertices out of P
abbrev pub Matching : (ℕ → ℕ → Bool) → (ℕ → Type 0) → List Pair → Type 0
Matching fit P [] = Unit {0}
Matching fit P (p ∷ ps) = Fits fit P p × Matching fit (Without P p.one p.other) ps

module _ (fit : ℕ → ℕ → Bool) where
  -- more vertices allow the same pair
  allowed : (P Q : ℕ → Type 0) → ((z : ℕ) → P z → Q z) → (p : Pair) → Fits fit P p → Fits fit Q p
  allowed P Q f p a = record { one_in = f p.one a.one_in; other_in = f p.other a.other_in; differ = a.differ; fits = a.fits }

  -- and the same pairs
  pub more : (P Q : ℕ → Type 0) → ((z : ℕ) → P z → Q z) → (ps : List Pair) → Matching fit P ps → Matching fit Q ps
  more P Q f [] m = tt
  more P Q f (p ∷ ps) m = (allowed P Q f p m.0, more (Without P p.one p.other) (Without Q p.one p.other) (λ z h. (f z h.0, h.1, h.2)) ps m.1)

  -- pairs without a common vertex take their vertices out one after the other
  pub take_out : (P : ℕ → Type 0) (ps : List Pair) → All (Fits fit P) ps → AllPairs NoCommonJob ps → Matching fit P ps
  take_out P [] a d = tt
  take_out P (p ∷ ps) a d = (a.0, take_out (Without P p.one p.other) ps (others ps a.1 d.0) d.1)
    where
      other : (q : Pair) → Fits fit P q → NoCommonJob p q → Fits fit (Without P p.one p.other) q
      other q a d = record {
        one_in = (a.one_in, λ e. d.one_one (sym e), λ e. d.other_one (sym e));
        other_in = (a.other_in, λ e. d.one_other (sym e), λ e. d.other_other (sym e));
        differ = a.differ;
        fits = a.fits;
      }

      others : (qs : List Pair) → All (Fits fit P) qs → All (NoCommonJob p) qs → All (Fits fit (Without P p.one p.other)) qs
      others [] a d = tt
      others (q ∷ qs) a d = (other q a.0 d.0, others qs a.1 d.1)

  -- no vertices, no pairs
  pub none_left : (ps : List Pair) → Matching fit (λ (z : ℕ). Mem z []) ps → length ps ≤ 0
  none_left [] m = omega arith
  none_left (p ∷ ps) m = absurd (not-nil m.0.one_in)

  -- who is paired is one of the vertices
  pub paired_in : (P : ℕ → Type 0) (ps : List Pair) (z : ℕ) → Matching fit P ps → in_pair ps z ≡ true → P z
  paired_in P [] z m e = absurd (false≢true (unfold in_pair any_of in e))
  paired_in P (p ∷ ps) z m e = ⊎_elim
      (⊎_elim (λ (s : z ≡ p.one). rw s m.0.one_in) (λ (s : z ≡ p.other). rw s m.0.other_in))
      (λ (t : in_pair ps z ≡ true). (paired_in (Without P p.one p.other) ps z m.1 t).0)
      (paired_cases p ps z e)

  -- so one that is left out is single
  pub single_out : (P : ℕ → Type 0) (a : ℕ) (ps : List Pair) → Matching fit (Except P a) ps → in_pair ps a ≡ false
  single_out P a ps m = ⊎_elim (λ (t : in_pair ps a ≡ true). absurd ((paired_in (Except P a) ps a m t).1 refl)) (λ (t : in_pair ps a ≡ false). t) (answers (in_pair ps a))

  -- ---- one vertex of a matching

  -- a has a mate in ps, and with this pair in front the other pairs have whom ps has
  pub record Mated (P : ℕ → Type 0) (a : ℕ) (ps : List Pair) : Type 0 where
    pub mate : ℕ
    pub mate_in_lem : P mate
    pub apart : mate ≢ a
    pub fits : fit a mate ≡ true
    pub others : List Pair
    pub one_fewer : length ps ≡ suc (length others)
    pub same : (z : ℕ) → in_pair ps z ≡ in_pair (record { one = a; other = mate } ∷ others) z
    pub matching : Matching fit (Without P a mate) others

  -- so a third is paired where the others have it
  pub third_paired : (P : ℕ → Type 0) (a : ℕ) (ps : List Pair) (m : Mated P a ps) (z : ℕ) → z ≢ a → z ≢ m.mate → in_pair ps z ≡ in_pair m.others z
  third_paired P a ps m z h k = m.same z ∙ apart_paired (record { one = a; other = m.mate }) m.others z h k

  -- every vertex is single or has a mate: look through the pairs
  pub single_or_mated : (P : ℕ → Type 0) → ((i j : ℕ) → P i → P j → fit i j ≡ true → fit j i ≡ true) → (a : ℕ) (ps : List Pair) → Matching fit P ps → Matching fit (Except P a) ps ⊎ Mated P a ps
  single_or_mated P turn a [] m = inl tt
  single_or_mated P turn a (p ∷ ps) m =
      look (ℕ_discrete p.one a) (ℕ_discrete p.other a) (single_or_mated (Without P p.one p.other) (λ i j h k. turn i j h.0 k.0) a ps m.1)
    where
      look : Dec (p.one ≡ a) → Dec (p.other ≡ a) → Matching fit (Except (Without P p.one p.other) a) ps ⊎ Mated (Without P p.one p.other) a ps → Matching fit (Except P a) (p ∷ ps) ⊎ Mated P a (p ∷ ps)
      look (yes e) d r = rw (← e) (inr (record {
        mate = p.other;
        mate_in_lem = m.0.other_in;
        apart = λ q. m.0.differ (sym q);
        fits = m.0.fits;
        others = ps;
        one_fewer = refl;
        same = λ z. refl;
        matching = m.1;
      }))
      look (no n) (yes e) r = rw (← e) (inr (record {
        mate = p.one;
        mate_in_lem = m.0.one_in;
        apart = m.0.differ;
        fits = turn p.one p.other m.0.one_in m.0.other_in m.0.fits;
        others = ps;
        one_fewer = refl;
        same = λ z. turned_paired p.one p.other ps z;
        matching = more (Without P p.one p.other) (Without P p.other p.one) (λ z h. (h.0, h.2, h.1)) ps m.1;
      }))
      look (no n) (no k) (inl r) = inl (
        record { one_in = (m.0.one_in, n); other_in = (m.0.other_in, k); differ = m.0.differ; fits = m.0.fits },
        more (Except (Without P p.one p.other) a) (Without (Except P a) p.one p.other) (λ z h. ((h.0.0, h.1), h.0.1, h.0.2)) ps r,
      )
      look (no n) (no k) (inr r) = inr (record {
        mate = r.mate;
        mate_in_lem = r.mate_in_lem.0;
        apart = r.apart;
        fits = r.fits;
        others = p ∷ r.others;
        one_fewer = ap suc r.one_fewer;
        same = λ z. behind_paired p (record { one = a; other = r.mate }) ps r.others z (r.same z);
        matching = (
          record { one_in = (m.0.one_in, n, λ q. r.mate_in_lem.1 (sym q)); other_in = (m.0.other_in, k, λ q. r.mate_in_lem.2 (sym q)); differ = m.0.differ; fits = m.0.fits },
          more (Without (Without P p.one p.other) a r.mate) (Without (Without P a r.mate) p.one p.other) (λ z h. ((h.0.0, h.1, h.2), h.0.1, h.0.2)) r.others r.matching,
        );
      })
