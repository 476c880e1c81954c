-- Bytes appended to an output, digit by digit and line by line (document 01, "The plan").
use Rattle.std.specs.Prelude.{ℕ, ◌+◌, ◌-◌, ◌/◌, ◌%◌, ◌<◌, ◌≤◌, ◌≡◌, refl, List, [], ◌∷◌, ◌++◌, length, take, set, replicate}
use Rattle.std.proofs.Common.{sym, ap, ◌∙◌, append_assoc, append-nil, add-one, arith, length-set, take-suc-set, take_all, length-take-le}
use Rattle.std.proofs.lemmas.List.{replicate-append-replicate}
use Rattle.model.specs.Verdict.{padded}
use Rattle.model.specs.Output.{digit, hex, pair_line, single_line, totals_line, group_count_line, refusal_bytes}

-- the n bytes are appended at `at`: the output then holds them up to r
pub record Appended (n at : ℕ) (bytes out : List ℕ) (r : ℕ) (out' : List ℕ) : Type 0 where
  pub moved : r ≡ at + n
  pub sized : length out' ≡ length out
  pub holds : take r out' ≡ take at out ++ bytes

-- ---- appending

pub appended_byte : (at b : ℕ) (out : List ℕ) → at < length out → Appended 1 at (b ∷ []) out (at + 1) (set out at b)
appended_byte at b out h = record { moved = refl; sized = length-set out at b; holds = rw add-one (take-suc-set out at b h) }

pub appended_then : {n m at r s : ℕ} {xs ys out out₁ out₂ : List ℕ} → Appended n at xs out r out₁ → Appended m r ys out₁ s out₂ → Appended (n + m) at (xs ++ ys) out s out₂
appended_then {at = at} {xs = xs} {ys = ys} {out = out} a b =
    record {
      moved = omega arith;
      sized = b.sized ∙ a.sized;
      holds = b.holds ∙ ap (λ (l : List ℕ). l ++ ys) a.holds ∙ append_assoc (take at out) xs ys;
    }

-- ---- digits

-- the bytes of the sixteen digits
abbrev pub digit_bytes : List ℕ
digit_bytes = 48 ∷ 49 ∷ 50 ∷ 51 ∷ 52 ∷ 53 ∷ 54 ∷ 55 ∷ 56 ∷ 57 ∷ 65 ∷ 66 ∷ 67 ∷ 68 ∷ 69 ∷ 70 ∷ []

-- four and eight digits, the upper half first
hex_four : (v : ℕ) → hex 4 v ≡ hex 2 (v / 256) ++ hex 2 (v % 256)
unfolding hex
hex_four v =
    let a : v / 16 / 16 ≡ v / 256 = omega arith in
    let b : v % 256 / 16 % 16 ≡ v / 16 % 16 = omega arith in
    let c : v % 256 % 16 ≡ v % 16 = omega arith in
    rw (a, b, c) refl

pub four_appended : (v : ℕ) {at a b : ℕ} {out o₁ o₂ : List ℕ} → Appended 2 at (hex 2 (v / 256)) out a o₁ → Appended 2 a (hex 2 (v % 256)) o₁ b o₂ → Appended 4 at (hex 4 v) out b o₂
four_appended v x y = rw (hex_four v) (appended_then x y)

hex_eight : (v : ℕ) → hex 8 v ≡ hex 4 (v / 65536) ++ hex 4 (v % 65536)
unfolding hex
hex_eight v =
    let a : v / 16 / 16 / 16 / 16 ≡ v / 65536 = omega arith in
    let b : v % 65536 / 16 / 16 / 16 % 16 ≡ v / 16 / 16 / 16 % 16 = omega arith in
    let c : v % 65536 / 16 / 16 % 16 ≡ v / 16 / 16 % 16 = omega arith in
    let d : v % 65536 / 16 % 16 ≡ v / 16 % 16 = omega arith in
    let e : v % 65536 % 16 ≡ v % 16 = omega arith in
    rw (a, b, c, d, e) refl

pub eight_appended : (v : ℕ) {at a b : ℕ} {out o₁ o₂ : List ℕ} → Appended 4 at (hex 4 (v / 65536)) out a o₁ → Appended 4 a (hex 4 (v % 65536)) o₁ b o₂ → Appended 8 at (hex 8 v) out b o₂
eight_appended v x y = rw (hex_eight v) (appended_then x y)

-- ---- lines

pub pair_appended : (i j u l : ℕ) {at a b c d e f : ℕ} {out o₁ o₂ o₃ o₄ o₅ o₆ : List ℕ} → Appended 2 at (49 ∷ 49 ∷ []) out a o₁ → Appended 4 a (hex 4 i) o₁ b o₂ → Appended 4 b (hex 4 j) o₂ c o₃ → Appended 4 c (hex 4 u) o₃ d o₄ → Appended 4 d (hex 4 l) o₄ e o₅ → Appended 1 e (10 ∷ []) o₅ f o₆ → Appended 19 at (pair_line i j u l) out f o₆
unfolding pair_line hex digit
pair_appended i j u l v w x y z end = appended_then (appended_then v (appended_then w (appended_then x (appended_then y z)))) end

pub single_appended : (i : ℕ) {at a b c : ℕ} {out o₁ o₂ o₃ : List ℕ} → Appended 2 at (49 ∷ 50 ∷ []) out a o₁ → Appended 4 a (hex 4 i) o₁ b o₂ → Appended 1 b (10 ∷ []) o₂ c o₃ → Appended 7 at (single_line i) out c o₃
unfolding single_line hex digit
single_appended i v w x = appended_then (appended_then v w) x

pub totals_appended : (p s n : ℕ) {at a b c d e : ℕ} {out o₁ o₂ o₃ o₄ o₅ : List ℕ} → Appended 2 at (49 ∷ 70 ∷ []) out a o₁ → Appended 4 a (hex 4 p) o₁ b o₂ → Appended 4 b (hex 4 s) o₂ c o₃ → Appended 8 c (hex 8 n) o₃ d o₄ → Appended 1 d (10 ∷ []) o₄ e o₅ → Appended 19 at (totals_line p s n) out e o₅
unfolding totals_line hex digit
totals_appended p s n v w x y z = appended_then (appended_then v (appended_then w (appended_then x y))) z

pub group_started : {at a : ℕ} {out o₁ : List ℕ} → Appended 2 at (49 ∷ 51 ∷ []) out a o₁ → Appended 2 at (hex 2 0x13) out a o₁
unfolding hex digit
group_started x = x

pub group_count_appended : (n : ℕ) {at a b c : ℕ} {out o₁ o₂ o₃ : List ℕ} → Appended 2 at (49 ∷ 70 ∷ []) out a o₁ → Appended 4 a (hex 4 n) o₁ b o₂ → Appended 1 b (10 ∷ []) o₂ c o₃ → Appended 7 at (group_count_line n) out c o₃
unfolding group_count_line hex digit
group_count_appended n v w x = appended_then (appended_then v w) x

pub refusal_appended : (n p : ℕ) {at a b c d : ℕ} {out o₁ o₂ o₃ o₄ : List ℕ} → Appended 2 at (49 ∷ 69 ∷ []) out a o₁ → Appended 2 a (hex 2 (n % 256)) o₁ b o₂ → Appended 4 b (hex 4 p) o₂ c o₃ → Appended 1 c (10 ∷ []) o₃ d o₄ → Appended 9 at (refusal_bytes n p) out d o₄
unfolding refusal_bytes hex digit
refusal_appended n p v w x y =
    let upper : n % 256 / 16 % 16 ≡ n / 16 % 16 = omega arith in
    let lower : n % 256 % 16 ≡ n % 16 = omega arith in
    appended_then (appended_then v (appended_then (rw (upper, lower) at w) x)) y

-- ---- zeros to the end

pub cleared_none : (at : ℕ) (old : List ℕ) → take at old ≡ take at old ++ replicate (at - at) 0
cleared_none at old = let none : at - at ≡ 0 = omega arith in rw none (sym (append-nil (take at old)))

pub cleared_more : (at i : ℕ) (old out : List ℕ) → at ≤ i → i < length out → take i out ≡ take at old ++ replicate (i - at) 0 → take (i + 1) (set out i 0) ≡ take at old ++ replicate (i + 1 - at) 0
cleared_more at i old out a h e =
    let more : i - at + 1 ≡ i + 1 - at = omega arith in
    rw add-one (take-suc-set out i 0 h)
    ∙ ap (λ (l : List ℕ). l ++ 0 ∷ []) e
    ∙ append_assoc (take at old) (replicate (i - at) 0) (0 ∷ [])
    ∙ ap (λ (l : List ℕ). take at old ++ l) (replicate-append-replicate (i - at) 1 0 ∙ ap (λ (n : ℕ). replicate n 0) more)

pub cleared_all : (at i : ℕ) (old out : List ℕ) → length out ≡ length old → length out ≤ i → i ≤ length old → take i out ≡ take at old ++ replicate (i - at) 0 → out ≡ take at old ++ replicate (length old - at) 0
cleared_all at i old out same h k e =
    let end : i ≡ length old = omega arith in
    sym (take_all i out h) ∙ e ∙ ap (λ (n : ℕ). take at old ++ replicate (n - at) 0) end

-- ---- the whole output

-- the bytes appended from the start on, and zeros after them
pub record Printed (bytes out : List ℕ) (r : ℕ) (out' : List ℕ) : Type 0 where
  pub counted : r ≡ length bytes
  pub holds : out' ≡ padded (length out) 0 bytes

pub printed_all : (bytes out : List ℕ) (r : ℕ) (out₁ out₂ : List ℕ) → length out₁ ≡ length out → r ≤ length out₁ → take r out₁ ≡ bytes → out₂ ≡ take r out₁ ++ replicate (length out₁ - r) 0 → Printed bytes out r out₂
printed_all bytes out r out₁ out₂ same h e z =
    let counted : r ≡ length bytes = sym (length-take-le r out₁ h) ∙ ap length e in
    record { counted = counted; holds = z ∙ rw (e, same, ← counted) refl }

pub appended_all : {n r : ℕ} {bytes out out₁ : List ℕ} (out₂ : List ℕ) → Appended n 0 bytes out r out₁ → n ≤ length out → out₂ ≡ take r out₁ ++ replicate (length out₁ - r) 0 → Printed bytes out r out₂
appended_all {n} {r} {bytes} {out} {out₁} out₂ a h z = printed_all bytes out r out₁ out₂ a.sized (omega (arith, a.moved, a.sized)) a.holds z
