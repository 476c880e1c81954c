-- The line of a group, appended job by job.
use Rattle.std.specs.Prelude.{ℕ, ◌+◌, ◌*◌, ◌<◌, ◌≡◌, length, get_or}
use Rattle.std.proofs.Common.{sym, ◌∙◌, add-one, arith, take-suc, take_all}
use Rattle.std.proofs.Math.Path.{ap}
use mathlib.Core.List.{List, [], ◌∷◌, ◌++◌, map, map-append, flat_map, append_assoc, append-nil}
use Rattle.std.proofs.Math.ListN.{take}
use Rattle.model.specs.Output.{hex, line}
use Rattle.laws.specs.Lists.{flat_more}
use Rattle.tree_laws.specs.WellFormed.{Tree}
use Rattle.ancestry.specs.Ancestry.{LowestCommonAncestor, LowestOf, lowest_one, lowest_more}
use Rattle.schedule.specs.InWork.{job_in}
use Rattle.lines.specs.Writing.{Appended, appended_then}

-- the bottom of the job at a place
abbrev pub bottom_at : List ℕ → List ℕ → ℕ → ℕ
bottom_at bottoms work p = get_or bottoms (job_in work p) 0

-- a group by place, which has a job at each of its places, with a known bottom
pub record GroupCells (ps bottoms work group : List ℕ) : Type 0 where
  pub some : 0 < length group
  pub place_inside : (m : ℕ) → m < length group → get_or group m 0 < length work
  pub job_known : (m : ℕ) → m < length group → job_in work (get_or group m 0) < length bottoms
  pub bottom_known : (m : ℕ) → m < length group → bottom_at bottoms work (get_or group m 0) < length ps

-- the digits of the jobs at these places
abbrev pub job_digits : List ℕ → List ℕ → List ℕ
job_digits work group = flat_map (λ (p : ℕ). hex 4 (job_in work p)) group

-- the line of a group is appended, with the lowest common ancestor of the bottoms
pub record GroupAppended (ps bottoms work group : List ℕ) (at : ℕ) (out : List ℕ) (r : ℕ) (out' : List ℕ) : Type 0 where
  pub layout : ℕ
  pub lowest : LowestOf ps (map (bottom_at bottoms work) group) layout
  pub appended : Appended (4 * length group + 7) at (line (hex 2 0x13 ++ (job_digits work group ++ hex 4 layout))) out r out'

-- the kind and the first m jobs of a group are appended
abbrev pub JobsAppended : List ℕ → List ℕ → ℕ → ℕ → List ℕ → ℕ → List ℕ → Type 0
JobsAppended work group m at out r out' = Appended (2 + 4 * m) at (hex 2 0x13 ++ job_digits work (take m group)) out r out'

module _ (work group : List ℕ) where
  -- one job more
  more_taken : (m : ℕ) → m < length group → take (m + 1) group ≡ take m group ++ get_or group m 0 ∷ []
  more_taken m h = rw add-one (take-suc group m 0 h)

  more_digits : (m : ℕ) → m < length group → job_digits work (take (m + 1) group) ≡ job_digits work (take m group) ++ hex 4 (job_in work (get_or group m 0))
  more_digits m h = ap (job_digits work) (more_taken m h) ∙ flat_more (λ (p : ℕ). hex 4 (job_in work p)) (take m group) (get_or group m 0)

  pub jobs_more : (m : ℕ) {at a b : ℕ} {out o₁ o₂ : List ℕ} → m < length group → JobsAppended work group m at out a o₁ → Appended 4 a (hex 4 (job_in work (get_or group m 0))) o₁ b o₂ → JobsAppended work group (m + 1) at out b o₂
  jobs_more m {at} {out = out} h x y =
      let both = appended_then x y in
      record {
        moved = omega (arith, both.moved);
        sized = both.sized;
        holds = both.holds ∙ ap (λ (l : List ℕ). take at out ++ l) (append_assoc (hex 2 0x13) (job_digits work (take m group)) (hex 4 (job_in work (get_or group m 0))) ∙ ap (λ (l : List ℕ). hex 2 0x13 ++ l) (sym (more_digits m h)));
      }

  -- none yet
  pub jobs_none : {at a : ℕ} {out o₁ : List ℕ} → Appended 2 at (hex 2 0x13) out a o₁ → JobsAppended work group 0 at out a o₁
  unfolding flat_map
  jobs_none {at} {out = out} x =
      record { moved = omega (arith, x.moved); sized = x.sized; holds = x.holds ∙ ap (λ (l : List ℕ). take at out ++ l) (sym (append-nil (hex 2 0x13))) }

  pub jobs_first : {at a b : ℕ} {out o₁ o₂ : List ℕ} → 0 < length group → Appended 2 at (hex 2 0x13) out a o₁ → Appended 4 a (hex 4 (job_in work (get_or group 0 0))) o₁ b o₂ → JobsAppended work group 1 at out b o₂
  jobs_first h x y = jobs_more 0 h (jobs_none x) y

  module _ (ps bottoms : List ℕ) where
    -- the lowest common ancestor of the bottoms of the first m jobs
    abbrev pub LowestSoFar : ℕ → ℕ → Type 0
    LowestSoFar m layout = LowestOf ps (map (bottom_at bottoms work) (take m group)) layout

    more_bottoms : (m : ℕ) → m < length group → map (bottom_at bottoms work) (take (m + 1) group) ≡ map (bottom_at bottoms work) (take m group) ++ bottom_at bottoms work (get_or group m 0) ∷ []
    more_bottoms m h = ap (map (bottom_at bottoms work)) (more_taken m h) ∙ map-append (bottom_at bottoms work) (take m group) (get_or group m 0 ∷ [])

    pub lowest_first : (layout : ℕ) → GroupCells ps bottoms work group → layout ≡ bottom_at bottoms work (get_or group 0 0) → LowestSoFar 1 layout
    lowest_first layout g e = rw (more_bottoms 0 g.some, e) (lowest_one ps (bottom_at bottoms work (get_or group 0 0)) (g.bottom_known 0 g.some))

    pub lowest_next : Tree ps → (m : ℕ) → m < length group → (layout next : ℕ) → LowestSoFar m layout → LowestCommonAncestor ps layout (bottom_at bottoms work (get_or group m 0)) next → LowestSoFar (m + 1) next
    lowest_next t m h layout next l c = rw (more_bottoms m h) (lowest_more ps t (map (bottom_at bottoms work) (take m group)) layout (bottom_at bottoms work (get_or group m 0)) next l c)

    -- all of them, and the layout at the end of the line
    pub group_ended : (m layout : ℕ) {at a b : ℕ} {out o₁ o₂ : List ℕ} → m ≡ length group → JobsAppended work group m at out a o₁ → LowestSoFar m layout → Appended 5 a (line (hex 4 layout)) o₁ b o₂ → GroupAppended ps bottoms work group at out b o₂
    group_ended m layout {at} {out = out} e x l y =
        let all : take m group ≡ group = take_all m group (omega arith) in
        let both = appended_then x y in
        record {
          layout = layout;
          lowest = rw all at l;
          appended =
              record {
                moved = omega (arith, both.moved);
                sized = both.sized;
                holds = both.holds ∙ ap (λ (l : List ℕ). take at out ++ l) (rw all (sym (append_assoc (hex 2 0x13 ++ job_digits work group) (hex 4 layout) (10 ∷ [])) ∙ ap (λ (l : List ℕ). line l) (append_assoc (hex 2 0x13) (job_digits work group) (hex 4 layout))));
              };
        }
