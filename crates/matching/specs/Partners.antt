-- The partner buffer (document 01, "Rival plans and the cut"): the pairs read back from it are the pairs of the passes, and keep the rules.
use Prim.Native.Nat.{ℕ, suc, ◌+◌, ◌*◌, ◌≤◌, ◌<◌}
use Rattle.std.specs.Prelude.{◌≡◌, ◌⊎◌, ◌≢◌, true, false, cond, ◌&&◌, ◌||◌, length, get_or, ltb}
use Rattle.std.proofs.Math.Path.{refl, sym, ap}
use Rattle.std.proofs.Common.{◌∙◌, inl, inr, ⊎_elim, arith, ltb-true, lt-ltb, le-ltb, eq-eqb, ne_eqb}
use Rattle.std.proofs.Math.Bool.{Bool, and_comm, and-false, and-eq-true_iff, or_comm}
use mathlib.Core.List.Memᴰ.{cases_cons as mem-cons}
use mathlib.Core.List.Memᴰ.{head as here}
use mathlib.Core.List.Memᴰ.{not-nil}
use mathlib.Core.List.Memᴰ.{tail as there}
use mathlib.Core.List.{List, [], ◌∷◌, Memᴰ as Mem}
use Rattle.std.proofs.Math.Decide.{dec_lt, ℕ_discrete}
use Rattle.std.proofs.Math.Dec.{eqb}
use Rattle.model.specs.Lists.{numbers, count_where, select, All, AllPairs}
use Rattle.model.specs.Tree.{FFFF}
use Rattle.model.specs.Jobs.{Table, jobs, job_limit}
use Rattle.model.specs.Order.{running_order, place}
use Rattle.model.specs.Greedy.{Pass, pair, single, compatible, passes}
use Rattle.model.specs.Rival.{Pair, NoCommonJob, Rules, Rival, in_front, pairs_in_front, pairs_of, in_pair}
use Rattle.model.specs.Planning.{partner_in, partners, pairs, singles}
use Rattle.laws.specs.Lists.{Distinct, all_mem, mem_all, pairwise_imply, select_mem, select_pairwise, map_all, map_pairwise}
use Rattle.laws.specs.Counting.{any_counted, count_length_all, count_agree, count_none, count_all, count_select, count_map, count_at}
use Rattle.laws.specs.Booleans.{true_T}
use Rattle.laws.specs.Numbers.{mem_numbers, numbers_mem, numbers_at, numbers_rise, numbers_distinct}
use Rattle.matching.specs.Compatible.{compatible_true, compatible_symmetric}
use Rattle.matching.specs.Passes.{passes_counted, pairs_in, vertices, pairs_length, greedy_distinct, greedy_mem, mem_greedy, greedy_count, greedy_fits, greedy_places}
use Rattle.matching.specs.RunningOrder.{running_mem, mem_running, running_length, running_distinct, place_lt}

-- i and j are a pair of the passes, in one order or the other
abbrev pub Matched : List Pass → ℕ → ℕ → Type 0
Matched ps i j = Mem (record { one = i; other = j }) (pairs_in ps) ⊎ Mem (record { one = j; other = i }) (pairs_in ps)

matched_symmetric : (ps : List Pass) {i j : ℕ} → Matched ps i j → Matched ps j i
matched_symmetric ps (inl m) = inr m
matched_symmetric ps (inr m) = inl m

matched_later : (p : Pass) (ps : List Pass) {i j : ℕ} → Matched ps i j → Matched (p ∷ ps) i j
unfolding pairs_in
matched_later (pair a b) ps (inl m) = inl (there m)
matched_later (pair a b) ps (inr m) = inr (there m)
matched_later (single a) ps r = r

-- one step of a look for a partner
partner_one : (a b : ℕ) (ps : List Pass) {i : ℕ} → a ≡ i → partner_in (pair a b ∷ ps) i ≡ b
unfolding partner_in
partner_one a b ps {i} e = rw (eq-eqb a i e) refl

partner_other : (a b : ℕ) (ps : List Pass) {i : ℕ} → a ≢ i → b ≡ i → partner_in (pair a b ∷ ps) i ≡ a
unfolding partner_in
partner_other a b ps {i} n e = rw (ne_eqb a i n, eq-eqb b i e) refl

partner_later : (a b : ℕ) (ps : List Pass) {i : ℕ} → a ≢ i → b ≢ i → partner_in (pair a b ∷ ps) i ≡ partner_in ps i
unfolding partner_in
partner_later a b ps {i} n k = rw (ne_eqb a i n, ne_eqb b i k) refl

-- a partner makes a pair with i
pub partner_matched : (ps : List Pass) (i : ℕ) → partner_in ps i ≢ FFFF → Matched ps i (partner_in ps i)
unfolding partner_in pairs_in
partner_matched [] i h = absurd (h refl)
partner_matched (single a ∷ ps) i h = partner_matched ps i h
partner_matched (pair a b ∷ ps) i h = elim (ℕ_discrete a i) [
  | yes e ↦ rw (partner_one a b ps e) (inl (here (ap (λ (k : ℕ). record { one = k; other = b }) (sym e))))
  | no n ↦ elim (ℕ_discrete b i) [
    | yes e ↦ rw (partner_other a b ps n e) (inr (here (ap (λ (k : ℕ). record { one = a; other = k }) (sym e))))
    | no k ↦ rw (partner_later a b ps n k) (matched_later (pair a b) ps (partner_matched ps i (λ q. h (partner_later a b ps n k ∙ q))))
  ]
]

-- the vertices of a pair stand in the passes
pair_vertices : (ps : List Pass) {p : Pair} → Mem p (pairs_in ps) → Mem p.one (vertices ps) × Mem p.other (vertices ps)
unfolding pairs_in vertices
pair_vertices [] m = absurd (not-nil m)
pair_vertices (pair a b ∷ ps) {p} m = ⊎_elim
    (λ (e : p ≡ record { one = a; other = b }). (here (ap (λ (q : Pair). q.one) e), there (here (ap (λ (q : Pair). q.other) e))))
    (λ (m : Mem p (pairs_in ps)). let r = pair_vertices ps m in (there (there r.0), there (there r.1)))
    (mem-cons m)
pair_vertices (single a ∷ ps) m = let r = pair_vertices ps m in (there r.0, there r.1)

-- a pair's vertices are one another's partners
pub pair_partners : (ps : List Pass) → Distinct (vertices ps) → {p : Pair} → Mem p (pairs_in ps) → (partner_in ps p.one ≡ p.other) × (partner_in ps p.other ≡ p.one)
unfolding pairs_in vertices partner_in
pair_partners [] d m = absurd (not-nil m)
pair_partners (pair a b ∷ ps) d {p} m = ⊎_elim
    (λ (e : p ≡ record { one = a; other = b }).
    let one-is : p.one ≡ a = ap (λ (q : Pair). q.one) e in
    let other-is : p.other ≡ b = ap (λ (q : Pair). q.other) e in
    (partner_one a b ps (sym one-is) ∙ sym other-is, partner_other a b ps (λ s. d.0.0 (s ∙ other-is)) (sym other-is) ∙ sym one-is))
    (λ (m : Mem p (pairs_in ps)).
    let r = pair_partners ps d.1.1 m in
    let in_rest = pair_vertices ps m in
    let a-not : (k : ℕ) → Mem k (vertices ps) → a ≢ k = λ k n. all_mem (λ (k : ℕ). a ≢ k) d.0.1 n in
    let b-not : (k : ℕ) → Mem k (vertices ps) → b ≢ k = λ k n. all_mem (λ (k : ℕ). b ≢ k) d.1.0 n in
    (partner_later a b ps (a-not p.one in_rest.0) (b-not p.one in_rest.0) ∙ r.0, partner_later a b ps (a-not p.other in_rest.1) (b-not p.other in_rest.1) ∙ r.1))
    (mem-cons m)
pair_partners (single a ∷ ps) d m = pair_partners ps d.1 m

-- whichever of the two stands first
pub matched_partner : (ps : List Pass) → Distinct (vertices ps) → {i j : ℕ} → Matched ps i j → partner_in ps i ≡ j
matched_partner ps d (inl m) = (pair_partners ps d m).0
matched_partner ps d (inr m) = (pair_partners ps d m).1

-- so a partner's partner is the job itself
pub partner_back : (ps : List Pass) → Distinct (vertices ps) → (i : ℕ) → partner_in ps i ≢ FFFF → partner_in ps (partner_in ps i) ≡ i
partner_back ps d i h = matched_partner ps d (matched_symmetric ps (partner_matched ps i h))

-- what stands in no pass has no partner
pub partner_none : (ps : List Pass) (i : ℕ) → All (λ (k : ℕ). i ≢ k) (vertices ps) → partner_in ps i ≡ FFFF
unfolding vertices partner_in
partner_none [] i a = refl
partner_none (pair j k ∷ ps) i a = partner_later j k ps (λ e. a.0 (sym e)) (λ e. a.1.0 (sym e)) ∙ partner_none ps i a.1.1
partner_none (single j ∷ ps) i a = partner_none ps i a.1

-- ---- reading back

-- a pair read from cells f, by its smaller number, that passes a test
abbrev shown : (ℕ → ℕ) → ℕ → (Pair → Bool) → ℕ → Bool
shown f n q i = ltb i (f i) && ltb (f i) n && q (record { one = i; other = f i })

-- the pairs read from a buffer are counted at its cells
read_cells_lem : (n : ℕ) (cells : List ℕ) (q : Pair → Bool) → count_where q (pairs_of n cells) ≡ count_where (shown (λ (i : ℕ). get_or cells i FFFF) n q) (numbers n)
unfolding pairs_of
read_cells_lem n cells q =
    let f : ℕ → ℕ = λ i. get_or cells i FFFF in
    count_map (λ (i : ℕ). record { one = i; other = f i }) q (select (λ (i : ℕ). ltb i (f i) && ltb (f i) n) (numbers n))
    ∙ count_select (λ (i : ℕ). ltb i (f i) && ltb (f i) n) (λ (i : ℕ). q (record { one = i; other = f i })) (numbers n)

module _ (n : ℕ) (small : n ≤ FFFF) (q : Pair → Bool) (turned : (i j : ℕ) → q (record { one = i; other = j }) ≡ q (record { one = j; other = i })) where
  -- no partner, no pair
  shown_none : (f : ℕ → ℕ) (i : ℕ) → f i ≡ FFFF → shown f n q i ≡ false
  shown_none f i e = rw (e, le-ltb FFFF n small, and-false) refl

  -- the larger number of a pair does not show it
  shown_larger : (f : ℕ → ℕ) (i : ℕ) → f i ≤ i → shown f n q i ≡ false
  shown_larger f i h = rw (le-ltb i (f i) h) refl

  -- the smaller does
  shown_smaller : (f : ℕ → ℕ) (i j : ℕ) → f i ≡ j → i < j → j < n → shown f n q i ≡ q (record { one = i; other = j })
  shown_smaller f i j e h k = rw (e, lt-ltb i j h, lt-ltb j n k) refl

  -- one pair more, s and t, is one more shown, at s
  module _ (f g : ℕ → ℕ) (s t : ℕ) (less : s < t) (known : t < n) (f-s : f s ≡ t) (f-t : f t ≡ s) (g-s : g s ≡ FFFF) (g-t : g t ≡ FFFF) (same : (i : ℕ) → i ≢ s → i ≢ t → f i ≡ g i) where
    shown_same : (i : ℕ) → i ≢ s → shown f n q i ≡ shown g n q i
    shown_same i h = elim (ℕ_discrete i t) [
      | yes e ↦ rw e (shown_larger f t (omega arith) ∙ sym (shown_none g t g-t))
      | no k ↦ ap (λ (j : ℕ). ltb i j && ltb j n && q (record { one = i; other = j })) (same i h k)
    ]

    shown_more : count_where (shown f n q) (numbers n) ≡ cond (q (record { one = s; other = t })) (suc (count_where (shown g n q) (numbers n))) (count_where (shown g n q) (numbers n))
    shown_more =
        let rest : ℕ = count_where (shown g n q) (numbers n) in
        count_at (shown f n q) (shown g n q) (numbers_distinct n) (mem_numbers s n (omega arith)) (shown_none g s g-s) shown_same
        ∙ ap (λ (b : Bool). cond b (suc rest) rest) (shown_smaller f s t f-s less known)

  -- each pair of the passes is shown once, by its smaller number
  read_passes : (ps : List Pass) → Distinct (vertices ps) → All (λ (k : ℕ). k < n) (vertices ps) → count_where (shown (partner_in ps) n q) (numbers n) ≡ count_where q (pairs_in ps)
  unfolding vertices pairs_in count_where partner_in
  read_passes [] d known = count_none (shown (partner_in []) n q) (numbers n) (mem_all (λ (i : ℕ). shown (partner_in []) n q i ≡ false) (numbers n) (λ i m. shown_none (partner_in []) i refl))
  read_passes (single a ∷ ps) d known = read_passes ps d.1 known.1
  read_passes (pair a b ∷ ps) d known = rw (← read_passes ps d.1.1 known.1.1) (elim (dec_lt a b) [
    | yes h ↦ shown_more (partner_in (pair a b ∷ ps)) (partner_in ps) a b h known.1.0 a_b b_a none_a none_b (λ i h k. others i h k)
    | no h ↦ let a-not-b : a ≢ b = d.0.0 in rw (turned a b) (shown_more (partner_in (pair a b ∷ ps)) (partner_in ps) b a (omega arith) known.0 b_a a_b none_b none_a (λ i h k. others i k h))
  ])
    where
      a_b : partner_in (pair a b ∷ ps) a ≡ b
      a_b = partner_one a b ps refl

      b_a : partner_in (pair a b ∷ ps) b ≡ a
      b_a = partner_other a b ps d.0.0 refl

      none_a : partner_in ps a ≡ FFFF
      none_a = partner_none ps a d.0.1

      none_b : partner_in ps b ≡ FFFF
      none_b = partner_none ps b d.1.0

      others : (i : ℕ) → i ≢ a → i ≢ b → partner_in (pair a b ∷ ps) i ≡ partner_in ps i
      others i h k = partner_later a b ps (λ e. h (sym e)) (λ e. k (sym e))

-- ---- the pairs of a buffer, by what is known of its cells

-- what stands in cell i
abbrev cell : List ℕ → ℕ → ℕ
cell cells i = get_or cells i FFFF

module _ (n : ℕ) (cells : List ℕ) where
  -- cell i holds a greater number below n
  abbrev ours : ℕ → Bool
  ours i = ltb i (cell cells i) && ltb (cell cells i) n

  our_cell : {i : ℕ} → Mem i (select ours (numbers n)) → (i < n) × (i < cell cells i) × (cell cells i < n)
  our_cell {i} m =
      let r = select_mem ours (numbers n) m in
      let t = (and-eq-true_iff (ltb i (cell cells i)) (ltb (cell cells i) n)).0 r.1 in
      (numbers_mem n r.0, ltb-true i (cell cells i) t.0, ltb-true (cell cells i) n t.1)

  -- what holds of every i and its cell, where that is a greater number below n, holds of the pairs
  read_all : (P : Pair → Type 0) → ((i : ℕ) → i < n → i < cell cells i → cell cells i < n → P (record { one = i; other = cell cells i })) → All P (pairs_of n cells)
  unfolding pairs_of
  read_all P f = map_all (λ (i : ℕ). record { one = i; other = cell cells i }) P (select ours (numbers n))
      (mem_all (λ (i : ℕ). P (record { one = i; other = cell cells i })) (select ours (numbers n)) (λ i m. let k = our_cell m in f i k.0 k.1 k.2))

  -- pairs read from cells that tell each other have no number in common
  read_disjoint : ((i : ℕ) → i < n → cell cells i < n → cell cells (cell cells i) ≡ i) → AllPairs NoCommonJob (pairs_of n cells)
  unfolding pairs_of
  read_disjoint back = map_pairwise (λ (i : ℕ). record { one = i; other = cell cells i }) NoCommonJob (select ours (numbers n))
      (pairwise_imply ◌<◌ (λ (i j : ℕ). NoCommonJob (record { one = i; other = cell cells i }) (record { one = j; other = cell cells j })) (select ours (numbers n)) apart
      (select_pairwise ours ◌<◌ (numbers n) (numbers_rise n)))
    where
      apart : (i j : ℕ) → Mem i (select ours (numbers n)) → Mem j (select ours (numbers n)) → i < j → NoCommonJob (record { one = i; other = cell cells i }) (record { one = j; other = cell cells j })
      apart i j m k l =
          let a = our_cell m in
          let b = our_cell k in
          let back-i : cell cells (cell cells i) ≡ i = back i a.0 a.2 in
          let back-j : cell cells (cell cells j) ≡ j = back j b.0 b.2 in
          record {
            one_one = λ e. omega arith;
            one_other = λ (e : i ≡ cell cells j). omega (arith, ap (cell cells) e);
            other_one = λ (e : cell cells i ≡ j). omega (arith, ap (cell cells) e);
            other_other = λ (e : cell cells i ≡ cell cells j). omega (arith, ap (cell cells) e);
          }

module _ (tb : Table) where
  -- ---- the passes

  -- no job stands in two passes
  pub passes_distinct : Distinct (vertices (passes tb))
  unfolding passes
  passes_distinct = greedy_distinct (compatible tb) (running_order tb) (running_distinct tb)

  -- only jobs stand in the passes
  pub passes_known : All (λ (j : ℕ). j < jobs tb) (vertices (passes tb))
  unfolding passes
  passes_known = mem_all (λ (j : ℕ). j < jobs tb) (vertices (passes tb)) (λ j m. running_mem tb (mem_greedy (compatible tb) (running_order tb) m))

  -- and every job does
  pub passes_all : (j : ℕ) → j < jobs tb → Mem j (vertices (passes tb))
  unfolding passes
  passes_all j h = greedy_mem (compatible tb) (mem_running tb j h)

  -- paired jobs are compatible
  pub passes_compatible : All (λ (p : Pair). compatible tb p.one p.other ≡ true) (pairs_in (passes tb))
  unfolding passes
  passes_compatible = greedy_fits (compatible tb) (running_order tb)

  -- the earlier job of a pair stands first
  pub passes_places : All (λ (p : Pair). place tb p.one < place tb p.other) (pairs_in (passes tb))
  unfolding passes place
  passes_places = greedy_places (compatible tb) (running_order tb) (running_distinct tb)

  -- the pairs are twice as many jobs, and the others are singles
  pub jobs_counted : jobs tb ≡ 2 * pairs tb + singles tb
  unfolding passes pairs singles
  jobs_counted = sym (running_length tb) ∙ greedy_count (compatible tb) (running_order tb) (running_distinct tb)

  -- there are as many passes as pairs and singles
  pub passes_length : length (passes tb) ≡ pairs tb + singles tb
  unfolding pairs singles
  passes_length = passes_counted (passes tb)

  -- a cell holds the job's partner
  pub partner_cell : (i : ℕ) → i < jobs tb → get_or (partners tb) i FFFF ≡ partner_in (passes tb) i
  unfolding partners
  partner_cell i h = numbers_at (partner_in (passes tb)) (jobs tb) i FFFF h

  module _ (small : jobs tb ≤ job_limit) where
    present : (i : ℕ) → i < jobs tb → get_or (partners tb) i FFFF < jobs tb → partner_in (passes tb) i ≢ FFFF
    present i h k e = omega (arith, partner_cell i h)

    -- a cell that holds a job holds its partner, and the partner's cell holds the job
    pub partner_cells : (i : ℕ) → i < jobs tb → get_or (partners tb) i FFFF < jobs tb → get_or (partners tb) (get_or (partners tb) i FFFF) FFFF ≡ i
    partner_cells i h k = partner_cell (cell (partners tb) i) k ∙ ap (partner_in (passes tb)) (partner_cell i h) ∙ partner_back (passes tb) passes_distinct i (present i h k)

    -- I and J, both below M: if cell I holds J, cell J holds I
    pub partners_symmetric : (i j : ℕ) → i < jobs tb → j < jobs tb → get_or (partners tb) i FFFF ≡ j → get_or (partners tb) j FFFF ≡ i
    partners_symmetric i j h k e = rw (← e) (partner_cells i h (rw e k))

    -- and a job is not its own partner
    pub partner_apart : (i : ℕ) → i < jobs tb → get_or (partners tb) i FFFF ≢ i
    partner_apart i h e =
        let self : partner_in (passes tb) i ≡ i = sym (partner_cell i h) ∙ e in
        ⊎_elim not_both not_both (rw (← ap (Matched (passes tb) i) self) (partner_matched (passes tb) i (present i h (rw e h))))
      where
        not_both : Mem (record { one = i; other = i }) (pairs_in (passes tb)) → ⊥
        not_both m = omega (arith, all_mem (λ (p : Pair). place tb p.one < place tb p.other) passes_places m)

    -- such two jobs are compatible
    pub cell_compatible : (i : ℕ) → i < jobs tb → get_or (partners tb) i FFFF < jobs tb → compatible tb i (get_or (partners tb) i FFFF) ≡ true
    cell_compatible i h k = rw (partner_cell i h) (⊎_elim
        (λ m. all_mem (λ (p : Pair). compatible tb p.one p.other ≡ true) passes_compatible m)
        (λ m. compatible_symmetric tb i (partner_in (passes tb) i) ∙ all_mem (λ (p : Pair). compatible tb p.one p.other ≡ true) passes_compatible m)
        (partner_matched (passes tb) i (present i h k)))

    -- our pairs, read from the partner buffer, keep the rules of a rival plan
    pub our_pairs_keep : All (Rules tb) (pairs_of (jobs tb) (partners tb))
    our_pairs_keep = read_all (jobs tb) (partners tb) (Rules tb) rules
      where
        rules : (i : ℕ) → i < jobs tb → i < get_or (partners tb) i FFFF → get_or (partners tb) i FFFF < jobs tb → Rules tb (record { one = i; other = get_or (partners tb) i FFFF })
        rules i h l k =
            let c = compatible_true tb i (get_or (partners tb) i FFFF) (cell_compatible i h k) in
            record {
              one_known = h;
              other_known = k;
              differ = λ e. omega arith;
              one_not_solo = true_T c.0;
              other_not_solo = true_T c.1;
              same_window = true_T c.2;
              share = true_T c.3;
            }

    -- so they are themselves such a plan
    pub our_pairs : Rival tb (pairs_of (jobs tb) (partners tb))
    our_pairs = record { keep = our_pairs_keep; once = read_disjoint (jobs tb) (partners tb) partner_cells }

    -- as many of them pass a test of pairs as of the pairs of the passes
    pub our_pairs_count : (q : Pair → Bool) → ((i j : ℕ) → q (record { one = i; other = j }) ≡ q (record { one = j; other = i })) → count_where q (pairs_of (jobs tb) (partners tb)) ≡ count_where q (pairs_in (passes tb))
    our_pairs_count q turned =
        read_cells_lem (jobs tb) (partners tb) q
        ∙ count_agree (shown (cell (partners tb)) (jobs tb) q) (shown (partner_in (passes tb)) (jobs tb) q) (numbers (jobs tb))
        (mem_all (λ (i : ℕ). shown (cell (partners tb)) (jobs tb) q i ≡ shown (partner_in (passes tb)) (jobs tb) q i) (numbers (jobs tb)) (λ i m.
        ap (λ (j : ℕ). ltb i j && ltb j (jobs tb) && q (record { one = i; other = j })) (partner_cell i (numbers_mem (jobs tb) m))))
        ∙ read_passes (jobs tb) (omega arith) q turned (passes tb) passes_distinct passes_known

    -- so they pair whom the passes pair
    pub our_paired : (j : ℕ) → in_pair (pairs_of (jobs tb) (partners tb)) j ≡ in_pair (pairs_in (passes tb)) j
    unfolding in_pair
    our_paired j =
        let has_j : Pair → Bool = λ p. eqb j p.one || eqb j p.other in
        any_counted has_j (pairs_of (jobs tb) (partners tb))
        ∙ ap (ltb 0) (our_pairs_count has_j (λ a b. or_comm (eqb j a) (eqb j b)))
        ∙ sym (any_counted has_j (pairs_in (passes tb)))

    -- they are as many as the pairs given back
    pub our_pairs_length : length (pairs_of (jobs tb) (partners tb)) ≡ pairs tb
    unfolding pairs
    our_pairs_length = sym (count_length_all (pairs_of (jobs tb) (partners tb))) ∙ our_pairs_count (λ (p : Pair). true) (λ i j. refl) ∙ count_length_all (pairs_in (passes tb)) ∙ pairs_length (passes tb)

    -- in front of cut m lie as many of them as of the pairs of the passes
    pub our_pairs_in_front : (m : ℕ) → pairs_in_front tb m (pairs_of (jobs tb) (partners tb)) ≡ count_where (in_front tb m) (pairs_in (passes tb))
    unfolding pairs_in_front in_front
    our_pairs_in_front m = our_pairs_count (in_front tb m) (λ i j. and_comm (ltb (place tb i) m) (ltb (place tb j) m))

    -- and for m = M the number of pairs
    pub our_pairs_all : pairs_in_front tb (jobs tb) (pairs_of (jobs tb) (partners tb)) ≡ pairs tb
    unfolding pairs in_front
    our_pairs_all = our_pairs_in_front (jobs tb)
        ∙ count_all (in_front tb (jobs tb)) (pairs_in (passes tb)) (mem_all (λ (p : Pair). in_front tb (jobs tb) p ≡ true) (pairs_in (passes tb)) (λ p m. front p (pair_vertices (passes tb) m)))
        ∙ pairs_length (passes tb)
      where
        in_order : {j : ℕ} → Mem j (vertices (passes tb)) → place tb j < jobs tb
        in_order {j} m = place_lt tb j (all_mem (λ (j : ℕ). j < jobs tb) passes_known m)

        front : (p : Pair) → Mem p.one (vertices (passes tb)) × Mem p.other (vertices (passes tb)) → in_front tb (jobs tb) p ≡ true
        front p m = rw (lt-ltb (place tb p.one) (jobs tb) (in_order m.0), lt-ltb (place tb p.other) (jobs tb) (in_order m.1)) refl
