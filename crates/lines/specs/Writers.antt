-- What a writer holds, and what its methods append.
use Rattle.std.specs.Prelude.{ℕ, ◌+◌, ◌-◌, ◌≤◌, ◌≡◌, List, ◌++◌, length, take, replicate}
use Rattle.std.proofs.Common.{ap, ◌∙◌, arith}
use Rattle.std.specs.Borrow.{MutBor}
use Rattle.lines.specs.declared.Writer.{Writer}
use Rattle.lines.specs.Writing.{Appended, Printed, appended_then, printed_all}

-- how many bytes are written, and the output that they are written to
abbrev pub written : Writer → ℕ
written w = w.at

abbrev pub output : Writer → List ℕ
output w = w.out.now

-- the output that was lent is still the one that is written to
abbrev pub Same : Writer → Writer → Type 0
Same w w' = w'.out.ghost_name ≡ w.out.ghost_name

-- there is room for n bytes more
abbrev pub Room : Writer → ℕ → Type 0
Room w n = written w + n ≤ length (output w)

-- nothing is written to the output lent
pub record Begun (out : MutBor (List ℕ)) (w : Writer) : Type 0 where
  pub same : w.out.ghost_name ≡ out.ghost_name
  pub none : written w ≡ 0
  pub kept : output w ≡ out.now

-- n bytes are appended to the same output
pub record Put (n : ℕ) (bytes : List ℕ) (w w' : Writer) : Type 0 where
  pub same : Same w w'
  pub appended : Appended n (written w) bytes (output w) (written w') (output w')

-- what is written stays, and zeros come after it
pub record Cleared (w : Writer) (r : ℕ) (out' : List ℕ) : Type 0 where
  pub counted : r ≡ written w
  pub holds : out' ≡ take r (output w) ++ replicate (length (output w) - r) 0

-- ---- one part after the other

pub put_then : {n m : ℕ} {xs ys : List ℕ} {w w₁ w₂ : Writer} → Put n xs w w₁ → Put m ys w₁ w₂ → Put (n + m) (xs ++ ys) w w₂
put_then a b = record { same = b.same ∙ a.same; appended = appended_then a.appended b.appended }

-- ---- the whole output

-- what is written when the writer ends is printed, in the output that it leaves behind
pub printed_by : {r : ℕ} {bytes left out' : List ℕ} {out : MutBor (List ℕ)} {w w₁ : Writer} → Begun out w → length (output w₁) ≡ length (output w) → take (written w₁) (output w₁) ≡ bytes → Cleared w₁ r left → out' ≡ left → Printed bytes out.now r out'
printed_by {r} {bytes} {left} {out'} {out} {w} {w₁} b same held c e =
    printed_all bytes out.now r (output w₁) out' (same ∙ ap length b.kept) (omega (arith, c.counted, w₁.within)) (ap (λ (n : ℕ). take n (output w₁)) c.counted ∙ held) (e ∙ c.holds)

-- so are the bytes that are put by a writer that begins
pub printed_put : {n r : ℕ} {bytes left out' : List ℕ} {out : MutBor (List ℕ)} {w w₁ : Writer} → Begun out w → Put n bytes w w₁ → Cleared w₁ r left → out' ≡ left → Printed bytes out.now r out'
printed_put {bytes = bytes} {w = w} b p c e = printed_by b p.appended.sized (p.appended.holds ∙ ap (λ (n : ℕ). take n (output w) ++ bytes) b.none) c e
