-- Cells copied to the first of others.
use Rattle.std.specs.Prelude.{ℕ, suc, ◌+◌, ◌<◌, ◌≤◌, ◌≡◌, refl, List, ◌++◌, length, get_or, set, take, drop}
use Rattle.std.proofs.Common.{sym, ap, ◌∙◌, add-one, arith, length-set, length-take-le, take-suc, take_all, drop-cons}
use Rattle.std.proofs.lemmas.List.{set_at}
use Rattle.std.proofs.Math.Seq.{append_snoc}

-- the first j cells are copied over what stood there
pub record CopiedTo (j : ℕ) (cells old copies : List ℕ) : Type 0 where
  pub within : j ≤ length cells
  pub same : length copies ≡ length old
  pub copied : copies ≡ take j cells ++ drop j old

pub copied_none : (cells old : List ℕ) → CopiedTo 0 cells old old
copied_none cells old = record { within = omega arith; same = refl; copied = refl }

module _ (cells old : List ℕ) (room : length cells ≤ length old) where
  pub copied_more : (j : ℕ) (copies : List ℕ) → j < length cells → CopiedTo j cells old copies → CopiedTo (j + 1) cells old (set copies j (get_or cells j 0))
  copied_more j copies h c =
      record {
        within = omega arith;
        same = rw length-set c.same;
        copied =
            rw (c.copied, add-one)
            (ap (λ (l : List ℕ). set (take j cells ++ l) j (get_or cells j 0)) (drop-cons old j 0 (omega arith))
            ∙ set_at (take j cells) (get_or old j 0) (drop (suc j) old) (get_or cells j 0) j (length-take-le j cells (omega arith))
            ∙ sym (append_snoc (take j cells) (get_or cells j 0) (drop (suc j) old))
            ∙ ap (λ (l : List ℕ). l ++ drop (suc j) old) (sym (take-suc cells j 0 h)));
      }

  pub copied_all : (n j : ℕ) (copies : List ℕ) → n ≡ length cells → n ≤ j → CopiedTo j cells old copies → copies ≡ cells ++ drop n old
  copied_all n j copies e all c =
      let end : j ≡ n = omega (arith, c.within) in
      c.copied ∙ rw (take_all j cells (omega arith), end) refl
