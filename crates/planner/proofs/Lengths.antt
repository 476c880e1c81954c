-- Laws of the lengths of what is lent: each ground of refusal 8, as the tests find it.
use Rattle.std.proofs.Common.{ℕ, ◌<◌, ◌≤◌, ◌≡◌, ◌⊎◌, inl, inr, sym, length}
use Rattle.model.specs.Verdict.{refused}
use Rattle.model.specs.Jobs.{Table, jobs}
use Rattle.model.specs.Planning.{work_cells, plan_verdict}
use Rattle.jobs.specs.PlanVerdict.{unequal_bottoms, unequal_marks, unequal_windows, short_partners, short_uppers, short_printed, short_work}

module _ (tb : Table) (partners uppers printed work : ℕ) where
  abbrev bottoms : Type 0
  bottoms = length tb.bottoms ≡ jobs tb

  abbrev marks : Type 0
  marks = length tb.marks ≡ jobs tb

  abbrev windows : Type 0
  windows = length tb.windows ≡ jobs tb

  -- the columns are not of one length
  pub unequal : ¬ bottoms ⊎ (bottoms × ¬ marks ⊎ bottoms × marks × ¬ windows) → plan_verdict tb partners uppers printed work ≡ refused 8 0
  unequal (inl h) = unequal_bottoms tb partners uppers printed work (λ e. h (sym e))
  unequal (inr (inl h)) = unequal_marks tb partners uppers printed work (sym h.0) (λ e. h.1 (sym e))
  unequal (inr (inr h)) = unequal_windows tb partners uppers printed work (sym h.0) (sym h.1) (λ e. h.2 (sym e))

  -- a result has no cell for some job, or work cells are missing
  pub short : bottoms → marks → windows
      → partners < jobs tb ⊎ (jobs tb ≤ partners × uppers < jobs tb ⊎ (jobs tb ≤ partners × jobs tb ≤ uppers × printed < jobs tb ⊎ jobs tb ≤ partners × jobs tb ≤ uppers × jobs tb ≤ printed × work < work_cells))
      → plan_verdict tb partners uppers printed work ≡ refused 8 0
  short b m w (inl h) = short_partners tb partners uppers printed work (sym b) (sym m) (sym w) h
  short b m w (inr (inl h)) = short_uppers tb partners uppers printed work (sym b) (sym m) (sym w) h.0 h.1
  short b m w (inr (inr (inl h))) = short_printed tb partners uppers printed work (sym b) (sym m) (sym w) h.0 h.1 h.2
  short b m w (inr (inr (inr h))) = short_work tb partners uppers printed work (sym b) (sym m) (sym w) h.0 h.1 h.2 h.3
