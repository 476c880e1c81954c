-- The plan handed back by job number, pass by pass: at its own number each job finds its partner and the highest and the deepest layout that they share.
use Prim.Native.Nat.{ℕ, suc, ◌+◌, ◌≤◌, ◌<◌}
use Rattle.std.specs.Prelude.{◌≡◌, ◌⊎◌, ◌≢◌, length, set, take, drop}
use Rattle.std.proofs.Math.Path.{refl, sym}
use Rattle.std.proofs.Common.{ap, ◌∙◌, inl, inr, add-one, take-append-drop, take-suc, take_all, drop-cons, ext_get_or}
use mathlib.Core.List.Memᴰ
use mathlib.Core.List.Memᴰ.{append_cases as mem-append}
use mathlib.Core.List.Memᴰ.{append_left as mem-left}
use mathlib.Core.List.Memᴰ.{append_right as mem-right}
use mathlib.Core.List.Memᴰ.{head as here}
use mathlib.Core.List.Memᴰ.{tail as there}
use mathlib.Core.List.{List, [], ◌∷◌, ◌++◌, map, Memᴰ as Mem}
use Rattle.std.proofs.Math.ListN.{get_or, length-set}
use Rattle.std.proofs.lemmas.List.{length-map}
use Rattle.std.proofs.Math.Seq.{get_or-set_other}
use Rattle.std.proofs.Common.{arith}
use Rattle.std.proofs.lemmas.Grind.{common_steps}
use Rattle.model.specs.Lists.{numbers}
use Rattle.model.specs.Tree.{FFFF}
use Rattle.model.specs.Jobs.{Table, jobs, highest, deepest_shared}
use Rattle.model.specs.Greedy.{Pass, pair, single, passes}
use Rattle.model.specs.Planning.{partner_in, partners, upper, upper_layouts, printed, printed_layouts}
use Rattle.laws.specs.Lists.{pairwise_across}
use Rattle.laws.specs.Numbers.{numbers_length, numbers_at}
use Rattle.jobs.specs.Accepted.{Accepted}
use Rattle.matching.specs.Passes.{vertices}
use Rattle.matching.specs.Partners.{passes_all, passes_distinct}
use Rattle.highest.specs.Columns.{Highests}
use Rattle.passes.specs.Read.{PassRead}
use Rattle.passes.specs.OfTable.{PassIs, plan_pass}
use Rattle.passes.specs.PlanPass.{one_known, other_known, one_partner, other_partner, one_upper, other_upper, one_printed, other_printed, single_known, single_partner, single_upper, single_printed, Plan, jobs_are, within, plan_read}
use Rattle.passes.specs.declared.Pass as declared
use Rattle.passes.specs.declared.Pass.TheVariants as pass
use Rattle.settle.specs.declared.SettledTree.{SettledTree}

-- the partners with those of a pass written
abbrev pub partners_with : declared.Pass → List ℕ → List ℕ
partners_with (pass.Pair one other layout) cells = set (set cells one.0 other.0) other.0 one.0
partners_with (pass.Single job) cells = set cells job.0 FFFF

-- the upper layouts with those of a pass written: of a pair, what stands in the cell of the earlier
abbrev pub uppers_with : declared.Pass → List ℕ → List ℕ
uppers_with (pass.Pair one other layout) cells = set (set cells one.0 (get_or cells one.0 0)) other.0 (get_or cells one.0 0)
uppers_with (pass.Single job) cells = set cells job.0 FFFF

-- the printed layouts with those of a pass written
abbrev pub printed_with : declared.Pass → List ℕ → List ℕ
printed_with (pass.Pair one other layout) cells = set (set cells one.0 layout.0) other.0 layout.0
printed_with (pass.Single job) cells = set cells job.0 FFFF

-- the jobs of a pass have cells
abbrev pub Inside : declared.Pass → ℕ → Type 0
Inside (pass.Pair one other layout) n = (one.0 < n) × (other.0 < n)
Inside (pass.Single job) n = job.0 < n

-- the jobs of the first k passes have found their partners and layouts; in the place of an upper layout the others have their highest
pub record HandedBack (tb : Table) (k : ℕ) (ps us ls : List ℕ) : Type 0 where
  pub partners_length : length ps ≡ jobs tb
  pub uppers_length : length us ≡ jobs tb
  pub printed_length : length ls ≡ jobs tb
  pub partner_at : (j : ℕ) → Mem j (vertices (take k (passes tb))) → get_or ps j 0 ≡ partner_in (passes tb) j
  pub upper_at : (j : ℕ) → Mem j (vertices (take k (passes tb))) → get_or us j 0 ≡ upper tb j
  pub printed_at : (j : ℕ) → Mem j (vertices (take k (passes tb))) → get_or ls j 0 ≡ printed tb j
  pub highest_at : (j : ℕ) → j < jobs tb → (Mem j (vertices (take k (passes tb))) → ⊥) → get_or us j 0 ≡ highest tb j

-- the plan is handed back
pub record Returned (tb : Table) (ps us ls : List ℕ) : Type 0 where
  pub partners_are : ps ≡ partners tb
  pub uppers_are : us ≡ upper_layouts tb
  pub printed_are : ls ≡ printed_layouts tb

-- ---- vertices

vertices_append : (xs ys : List Pass) → vertices (xs ++ ys) ≡ vertices xs ++ vertices ys
unfolding vertices
vertices_append [] ys = refl
vertices_append (pair i j ∷ xs) ys = ap (λ (l : List ℕ). i ∷ j ∷ l) (vertices_append xs ys)
vertices_append (single i ∷ xs) ys = ap (λ (l : List ℕ). i ∷ l) (vertices_append xs ys)

-- ---- one pass more

module _ (tb : Table) (a : Accepted tb) where
  -- the jobs of the pass have cells
  pub pass_inside : (k : ℕ) → k < length (passes tb) → (p : Pass) → plan_pass tb k ≡ p → (x : declared.Pass) → PassIs tb p x → Inside x (jobs tb)
  pass_inside k h (pair i j) is (pass.Pair one other layout) e = (rw e.0 (one_known tb a k i j h is), rw e.1 (other_known tb a k i j h is))
  pass_inside k h (pair i j) is (pass.Single job) e = absurd e
  pass_inside k h (single i) is (pass.Pair one other layout) e = absurd e
  pass_inside k h (single i) is (pass.Single job) e = rw e (single_known tb a k i h is)

  -- writing right values into two cells keeps what is right, and makes them right
  two_written : (f : ℕ → ℕ) (cells : List ℕ) (i j x y : ℕ) (l : List ℕ) → i < length cells → j < length cells → x ≡ f i → y ≡ f j
      → ((z : ℕ) → Mem z l → get_or cells z 0 ≡ f z) → (z : ℕ) → Mem z (l ++ i ∷ j ∷ []) → get_or (set (set cells i x) j y) z 0 ≡ f z
  two_written f cells i j x y l hi hj ex ey right z m = among (mem-append l m)
    where
      among : Mem z l ⊎ Mem z (i ∷ j ∷ []) → get_or (set (set cells i x) j y) z 0 ≡ f z
      among (inl n) = let e = right z n in grind (arith, common_steps)
      among (inr (here e)) = grind (arith, common_steps)
      among (inr (there (here e))) = grind (arith, common_steps)
      among (inr (there (there m))) = elim m [ ]

  one_written : (f : ℕ → ℕ) (cells : List ℕ) (i x : ℕ) (l : List ℕ) → i < length cells → x ≡ f i → ((z : ℕ) → Mem z l → get_or cells z 0 ≡ f z)
      → (z : ℕ) → Mem z (l ++ i ∷ []) → get_or (set cells i x) z 0 ≡ f z
  one_written f cells i x l hi ex right z m = among (mem-append l m)
    where
      among : Mem z l ⊎ Mem z (i ∷ []) → get_or (set cells i x) z 0 ≡ f z
      among (inl n) = let e = right z n in grind (arith, common_steps)
      among (inr (here e)) = grind (arith, common_steps)
      among (inr (there m)) = elim m [ ]

  -- pass k more
  module _ (k : ℕ) (h : k < length (passes tb)) where
    longer : vertices (take (suc k) (passes tb)) ≡ vertices (take k (passes tb)) ++ vertices (plan_pass tb k ∷ [])
    longer = ap vertices (take-suc (passes tb) k (single 0) h) ∙ vertices_append (take k (passes tb)) (plan_pass tb k ∷ [])

    -- no job of it stands in front
    fresh : {z : ℕ} → Mem z (vertices (plan_pass tb k ∷ [])) → Mem z (vertices (take k (passes tb))) → ⊥
    fresh {z} m n = pairwise_across (λ (x y : ℕ). x ≢ y) (vertices (take k (passes tb))) (vertices (drop k (passes tb))) (rw parts at (passes_distinct tb)) n behind refl
      where
        parts : vertices (passes tb) ≡ vertices (take k (passes tb)) ++ vertices (drop k (passes tb))
        parts = ap vertices (sym (take-append-drop k (passes tb))) ∙ vertices_append (take k (passes tb)) (drop k (passes tb))

        behind : Mem z (vertices (drop k (passes tb)))
        behind = rw (drop-cons (passes tb) k (single 0) h, vertices_append (plan_pass tb k ∷ []) (drop (suc k) (passes tb))) (mem-left (vertices (drop (suc k) (passes tb))) m)

    more : (p : Pass) → plan_pass tb k ≡ p → (x : declared.Pass) → PassIs tb p x → (ps us ls : List ℕ) → HandedBack tb k ps us ls → HandedBack tb (suc k) (partners_with x ps) (uppers_with x us) (printed_with x ls)
    unfolding vertices
    more (pair i j) is (pass.Single job) e ps us ls b = absurd e
    more (single i) is (pass.Pair one other layout) e ps us ls b = absurd e
    more (pair i j) is (pass.Pair one other layout) e ps us ls b =
        let front : List ℕ = vertices (take k (passes tb)) in
        let all : vertices (take (suc k) (passes tb)) ≡ front ++ i ∷ j ∷ [] = longer ∙ rw is refl in
        let top : ℕ = get_or us i 0 in
        let held : top ≡ highest tb i = b.highest_at i (one_known tb a k i j h is) (fresh (rw is (here refl))) in
        rw (e.0, e.1, e.2)
        (record {
          partners_length = rw (length-set (set ps i j) j i, length-set ps i j) b.partners_length;
          uppers_length = rw (length-set (set us i top) j top, length-set us i top) b.uppers_length;
          printed_length = rw (length-set (set ls i (deepest_shared tb i j)) j (deepest_shared tb i j), length-set ls i (deepest_shared tb i j)) b.printed_length;
          partner_at = λ z m. two_written (partner_in (passes tb)) ps i j j i front (rw b.partners_length (one_known tb a k i j h is)) (rw b.partners_length (other_known tb a k i j h is)) (sym (one_partner tb a k i j h is)) (sym (other_partner tb a k i j h is)) b.partner_at z (rw all at m);
          upper_at = λ z m. two_written (upper tb) us i j top top front (rw b.uppers_length (one_known tb a k i j h is)) (rw b.uppers_length (other_known tb a k i j h is)) (held ∙ sym (one_upper tb a k i j h is)) (held ∙ sym (other_upper tb a k i j h is)) b.upper_at z (rw all at m);
          highest_at = λ z known behind.
              get_or-set_other (set us i top) j z top 0 (λ same. behind (rw (all, same) (mem-right front (there (here refl)))))
              ∙ get_or-set_other us i z top 0 (λ same. behind (rw (all, same) (mem-right front (here refl))))
              ∙ b.highest_at z known (λ m. behind (rw all (mem-left (i ∷ j ∷ []) m)));
          printed_at = λ z m. two_written (printed tb) ls i j (deepest_shared tb i j) (deepest_shared tb i j) front (rw b.printed_length (one_known tb a k i j h is)) (rw b.printed_length (other_known tb a k i j h is)) (sym (one_printed tb a k i j h is)) (sym (other_printed tb a k i j h is)) b.printed_at z (rw all at m);
        })
    more (single i) is (pass.Single job) e ps us ls b =
        let front : List ℕ = vertices (take k (passes tb)) in
        let all : vertices (take (suc k) (passes tb)) ≡ front ++ i ∷ [] = longer ∙ rw is refl in
        rw e
        (record {
          partners_length = rw (length-set ps i FFFF) b.partners_length;
          uppers_length = rw (length-set us i FFFF) b.uppers_length;
          printed_length = rw (length-set ls i FFFF) b.printed_length;
          partner_at = λ z m. one_written (partner_in (passes tb)) ps i FFFF front (rw b.partners_length (single_known tb a k i h is)) (sym (single_partner tb a k i h is)) b.partner_at z (rw all at m);
          upper_at = λ z m. one_written (upper tb) us i FFFF front (rw b.uppers_length (single_known tb a k i h is)) (sym (single_upper tb a k i h is)) b.upper_at z (rw all at m);
          highest_at = λ z known behind.
              get_or-set_other us i z FFFF 0 (λ same. behind (rw (all, same) (mem-right front (here refl))))
              ∙ b.highest_at z known (λ m. behind (rw all (mem-left (i ∷ []) m)));
          printed_at = λ z m. one_written (printed tb) ls i FFFF front (rw b.printed_length (single_known tb a k i h is)) (sym (single_printed tb a k i h is)) b.printed_at z (rw all at m);
        })

    pub handed_more : (x : declared.Pass) → PassIs tb (plan_pass tb k) x → (ps us ls : List ℕ) → HandedBack tb k ps us ls → HandedBack tb (k + 1) (partners_with x ps) (uppers_with x us) (printed_with x ls)
    handed_more x e ps us ls b = rw add-one (more (plan_pass tb k) refl x e ps us ls b)

  -- no pass
  pub handed_none : (ps us ls : List ℕ) → length ps ≡ jobs tb → Highests tb us → length ls ≡ jobs tb → HandedBack tb 0 ps us ls
  unfolding vertices
  handed_none ps us ls p u l =
      record {
        partners_length = p;
        uppers_length = u.counted;
        printed_length = l;
        partner_at = λ j m. absurd (none m);
        upper_at = λ j m. absurd (none m);
        printed_at = λ j m. absurd (none m);
        highest_at = λ j h behind. u.highest_at j h;
      }
    where
      none : {j : ℕ} → Mem j [] → ⊥
      none = Memᴰ.not-nil

  -- all passes: every job is in one
  all_written : (f : ℕ → ℕ) (cells : List ℕ) → length cells ≡ jobs tb → ((j : ℕ) → j < jobs tb → get_or cells j 0 ≡ f j) → cells ≡ map f (numbers (jobs tb))
  all_written f cells e right =
      ext_get_or 0 cells (map f (numbers (jobs tb)))
      (e ∙ sym (length-map (numbers (jobs tb)) f ∙ numbers_length (jobs tb)))
      (λ j h. let known : j < jobs tb = rw e at h in right j known ∙ sym (numbers_at f (jobs tb) j 0 known))

  pub handed_all : (k : ℕ) → length (passes tb) ≤ k → (ps us ls : List ℕ) → HandedBack tb k ps us ls → Returned tb ps us ls
  unfolding partners upper_layouts printed_layouts
  handed_all k h ps us ls b =
      let every : (j : ℕ) → j < jobs tb → Mem j (vertices (take k (passes tb))) = λ j l. rw (take_all k (passes tb) h) (passes_all tb j l) in
      record {
        partners_are = all_written (partner_in (passes tb)) ps b.partners_length (λ j l. b.partner_at j (every j l));
        uppers_are = all_written (upper tb) us b.uppers_length (λ j l. b.upper_at j (every j l));
        printed_are = all_written (printed tb) ls b.printed_length (λ j l. b.printed_at j (every j l));
      }

-- ---- the whole

module _ (tb : Table) (ps : List ℕ) (tree : SettledTree) (highests bottoms work : List ℕ) (count : ℕ) (p : Plan tb ps tree highests bottoms work count) where
  module _ (k : ℕ) (h : k < count) where
    pub plan_inside : (x : declared.Pass) → PassRead ps bottoms work k x → Inside x (length bottoms)
    plan_inside x o = rw (jobs_are tb ps tree highests bottoms work count p) (pass_inside tb p.table k (within tb ps tree highests bottoms work count p k h) (plan_pass tb k) refl x (plan_read tb ps tree highests bottoms work count p k h x o))

    pub plan_more : (x : declared.Pass) → PassRead ps bottoms work k x → (cells us ls : List ℕ) → HandedBack tb k cells us ls → HandedBack tb (k + 1) (partners_with x cells) (uppers_with x us) (printed_with x ls)
    plan_more x o cells us ls b = handed_more tb p.table k (within tb ps tree highests bottoms work count p k h) x (plan_read tb ps tree highests bottoms work count p k h x o) cells us ls b

  pub plan_returned : (k : ℕ) → count ≤ k → (cells us ls : List ℕ) → HandedBack tb k cells us ls → Returned tb cells us ls
  plan_returned k h cells us ls b = handed_all tb p.table k (rw p.count_is at h) cells us ls b
