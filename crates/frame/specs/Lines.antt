-- What the bytes at fixed positions tell of the first line: n digits and then 0A are a line, and where neither 6 nor 10 nor 12 digits
-- stand before a 0A, the first line is no frame, however long it is.
use Rattle.std.specs.Prelude.{ℕ, zero, suc, ◌+◌, ◌-◌, ◌<◌, ◌≤◌, ◌≡◌, refl, Bool, true, false, cond, ◌||◌, ◌&&◌, List, [], ◌∷◌, length, get_or, take, drop, eqb, leb}
use Rattle.std.proofs.Common.{sym, ap, subst, ◌∙◌, true≢false, zero-add, suc-add, le_of_lt, le_refl, arith, length-drop, take-take, take_all, length-take-le, eqb-true, eq-eqb, ne_eqb}
use Rattle.std.proofs.Math.Bool.{and-true, and-false, and-eq-true_iff}
use Rattle.std.proofs.Math.Option.{Option, none, some}
use Rattle.std.proofs.Math.Seq.{take-nil}
use Rattle.model.specs.Lists.{all_of}
use Rattle.model.specs.Table.{is_digit, number_after, kind_of, field_at, window_at, Line, terminated, unterminated, lead, lines, first_of, first_line, layout_frame, job_frame, solo_frame, window_frame, end_frame, frame_of_kind, frame_of, beyond_windows}
use Rattle.model.specs.Answers.{frame_case, found, refusal, line_answer}
use Rattle.model.specs.declared.Frame.{Frame}
use Rattle.model.specs.Table as Table
use Rattle.frame.specs.Fields.{ends_after}

-- how many bytes a frame's line has, its 0A among them
abbrev pub width : Table.Frame → ℕ
width (layout_frame p) = 7
width (job_frame t b) = 11
width (solo_frame t b) = 11
width (window_frame t b v) = 13
width (end_frame n m) = 11

-- n digits and then byte 0A stand at the front
unfoldable pub digit_line : ℕ → List ℕ → Bool
digit_line n s = all_of is_digit (take n s) && eqb (get_or s n 0) 10

-- a part to the end is what is left
pub rest : (s : List ℕ) (at : ℕ) → take (length s - at) (drop at s) ≡ drop at s
rest s at = take_all (length s - at) (drop at s) (rw length-drop (le_refl (length s - at)))

-- ---- lines and 0A

-- 0A is no digit
digit_not_end : (b : ℕ) → is_digit b ≡ true → eqb b 10 ≡ false
unfolding is_digit
digit_not_end b e =
    ne_eqb b 10 (λ q. true≢false (sym e ∙ ap (λ (x : ℕ). leb 48 x && leb x 57 || leb 65 x && leb x 70) q))

-- none of n digits is 0A
digits_no_end : (n i : ℕ) (s : List ℕ) → i < n → all_of is_digit (take n s) ≡ true → ends_after i s ≡ false
unfolding all_of
digits_no_end zero i s h d = absurd (omega arith)
digits_no_end (suc n) i [] h d = refl
digits_no_end (suc n) zero (b ∷ bs) h d = digit_not_end b ((and-eq-true_iff (is_digit b) (all_of is_digit (take n bs))).0 d).0
digits_no_end (suc n) (suc i) (b ∷ bs) h d =
    digits_no_end n i bs (omega arith) ((and-eq-true_iff (is_digit b) (all_of is_digit (take n bs))).0 d).1

-- a line of n digits at the front is the first line, and the other lines are those after it
lines_of_digits : (n : ℕ) (s : List ℕ) → all_of is_digit (take n s) ≡ true → get_or s n 0 ≡ 10 → lines s ≡ terminated (take n s) ∷ lines (drop (suc n) s)
unfolding all_of lines lead
lines_of_digits zero [] d e = absurd (omega arith)
lines_of_digits zero (b ∷ bs) d e = rw (eq-eqb b 10 e)
lines_of_digits (suc n) [] d e = absurd (omega arith)
lines_of_digits (suc n) (b ∷ bs) d e =
    let p = (and-eq-true_iff (is_digit b) (all_of is_digit (take n bs))).0 d in
    rw (digit_not_end b p.0, lines_of_digits n bs p.1 e)

-- l stands at the front, with 0A after it
record Leads (l s : List ℕ) : Type 0 where
  front : take (length l) s ≡ l
  end : get_or s (length l) 0 ≡ 10

led_by : (b : ℕ) (bs l : List ℕ) (ls : List Line) → ((l' : List ℕ) (ls' : List Line) → lines bs ≡ terminated l' ∷ ls' → Leads l' bs)
    → (after : List Line) → lines bs ≡ after → lead b after ≡ terminated l ∷ ls → Leads l (b ∷ bs)
unfolding lead
led_by b bs l ls ih [] e q = let z : ◌≡◌ {A = ℕ} 0 1 = cc in absurd (omega arith)
led_by b bs l ls ih (terminated l' ∷ ls') e q =
    let p : b ∷ l' ≡ l = cc in
    subst (λ (k : List ℕ). Leads k (b ∷ bs)) p (record { front = ap (λ (k : List ℕ). b ∷ k) (ih l' ls' e).front; end = (ih l' ls' e).end })
led_by b bs l ls ih (unterminated l' ∷ ls') e q = let z : ◌≡◌ {A = ℕ} 0 1 = cc in absurd (omega arith)

begun_by : (b : ℕ) (bs l : List ℕ) (ls : List Line) → ((l' : List ℕ) (ls' : List Line) → lines bs ≡ terminated l' ∷ ls' → Leads l' bs)
    → (t : Bool) → eqb b 10 ≡ t → cond t (terminated [] ∷ lines bs) (lead b (lines bs)) ≡ terminated l ∷ ls → Leads l (b ∷ bs)
begun_by b bs l ls ih true e q =
    let p : ◌≡◌ {A = List ℕ} [] l = cc in
    subst (λ (k : List ℕ). Leads k (b ∷ bs)) p (record { front = refl; end = eqb-true b 10 e })
begun_by b bs l ls ih false e q = led_by b bs l ls ih (lines bs) refl q

-- a whole first line stands at the front, with 0A after it
whole_line_leads : (s l : List ℕ) (ls : List Line) → lines s ≡ terminated l ∷ ls → Leads l s
unfolding lines
whole_line_leads [] l ls q = let z : ◌≡◌ {A = ℕ} 0 1 = cc in absurd (omega arith)
whole_line_leads (b ∷ bs) l ls q = begun_by b bs l ls (whole_line_leads bs) (eqb b 10) refl q

-- 0A stands only within the bytes
pub end_within : (s : List ℕ) (n : ℕ) → get_or s n 0 ≡ 10 → n < length s
end_within [] n e = absurd (omega arith)
end_within (b ∷ bs) zero e = omega arith
end_within (b ∷ bs) (suc n) e = let h = end_within bs n e in omega arith

-- ---- digits, by their number

drop_take : (k m : ℕ) (l : List ℕ) → drop k (take (k + m) l) ≡ take m (drop k l)
drop_take zero m l = rw zero-add
drop_take (suc k) m [] = rw suc-add (sym (take-nil m))
drop_take (suc k) m (x ∷ xs) = rw suc-add (drop_take k m xs)

-- a number among the first digits is that number of the bytes
number_of_take : (n k m : ℕ) (s : List ℕ) → n ≤ m → number_after 0 (take n (drop k (take (k + m) s))) ≡ number_after 0 (take n (drop k s))
number_of_take n k m s h = ap (number_after 0) (ap (take n) (drop_take k m s) ∙ take-take n m (drop k s) h)

kind_of_take : (n : ℕ) (s : List ℕ) → 2 ≤ n → kind_of (take n s) ≡ kind_of s
kind_of_take n s h = ap (number_after 0) (take-take 2 n s h)

six_digits : (l : List ℕ) → length l ≡ 6 → frame_of_kind l ≡ cond (eqb (kind_of l) 1) (some (layout_frame (field_at 2 l))) none
unfolding frame_of_kind
six_digits l e = rw e (simp (and-true, and-false))

-- by a test of its kind, and its two fields
abbrev pub long_frame : (ℕ → Bool) → ℕ → ℕ → Option Table.Frame
long_frame kind first second =
    cond (kind 2) (some (job_frame first second))
    (cond (kind 4) (some (solo_frame first second)) (cond (kind 3) (some (end_frame first second)) none))

ten_digits : (l : List ℕ) → length l ≡ 10 → frame_of_kind l ≡ long_frame (eqb (kind_of l)) (field_at 2 l) (field_at 6 l)
unfolding frame_of_kind
ten_digits l e = rw e (simp (and-true, and-false))

twelve_digits : (l : List ℕ) → length l ≡ 12 → frame_of_kind l ≡ cond (eqb (kind_of l) 5) (some (window_frame (field_at 2 l) (field_at 6 l) (window_at 10 l))) none
unfolding frame_of_kind
twelve_digits l e = rw e (simp (and-true, and-false))

-- a frame that a test of the kind and one of the length find is as wide as that length, or it is found behind them
by_test : (l : List ℕ) (f g : Table.Frame) (n : ℕ) (others : Option Table.Frame) → width g ≡ suc n → (others ≡ some f → width f ≡ suc (length l))
    → (t u : Bool) → eqb (length l) n ≡ u → cond (t && u) (some g) others ≡ some f → width f ≡ suc (length l)
by_test l f g n others w later true true e q =
    let is : g ≡ f = cc in
    ap width (sym is) ∙ w ∙ ap suc (sym (eqb-true (length l) n e))
by_test l f g n others w later true false e q = later q
by_test l f g n others w later false u e q = later q

-- a frame is as wide as its digits, with 0A after them
digits_wide : (l : List ℕ) (f : Table.Frame) → frame_of_kind l ≡ some f → width f ≡ suc (length l)
unfolding frame_of_kind
digits_wide l f =
    by_test l f (layout_frame (field_at 2 l)) 6 _ refl
    (by_test l f (job_frame (field_at 2 l) (field_at 6 l)) 10 _ refl
    (by_test l f (solo_frame (field_at 2 l) (field_at 6 l)) 10 _ refl
    (by_test l f (window_frame (field_at 2 l) (field_at 6 l) (window_at 10 l)) 12 _ refl
    (by_test l f (end_frame (field_at 2 l) (field_at 6 l)) 10 none refl
    (λ q. let z : ◌≡◌ {A = ℕ} 0 1 = cc in absurd (omega arith))
    (eqb (kind_of l) 3) _ refl)
    (eqb (kind_of l) 5) _ refl)
    (eqb (kind_of l) 4) _ refl)
    (eqb (kind_of l) 2) _ refl)
    (eqb (kind_of l) 1) _ refl

-- ---- a line of n digits at the front

module _ (n : ℕ) (s : List ℕ) (h : digit_line n s ≡ true) where
  pub digit_line_end : ends_after n s ≡ true
  unfolding digit_line
  digit_line_end = ((and-eq-true_iff (all_of is_digit (take n s)) (eqb (get_or s n 0) 10)).0 h).1

  -- no 0A stands before its end
  pub digit_line_no_end : (i : ℕ) → i < n → ends_after i s ≡ false
  unfolding digit_line
  digit_line_no_end i k = digits_no_end n i s k ((and-eq-true_iff (all_of is_digit (take n s)) (eqb (get_or s n 0) 10)).0 h).0

  pub digit_line_within : n < length s
  digit_line_within = end_within s n (eqb-true (get_or s n 0) 10 digit_line_end)

  -- the lines after it
  digit_line_first : lines s ≡ first_line s ∷ lines (drop (suc n) s)
  unfolding digit_line first_line
  digit_line_first =
      let p = (and-eq-true_iff (all_of is_digit (take n s)) (eqb (get_or s n 0) 10)).0 h in
      rw (lines_of_digits n s p.0 (eqb-true (get_or s n 0) 10 p.1))

  -- its frame
  digit_line_frame : frame_of (first_line s) ≡ frame_of_kind (take n s)
  unfolding digit_line first_line frame_of
  digit_line_frame =
      let p = (and-eq-true_iff (all_of is_digit (take n s)) (eqb (get_or s n 0) 10)).0 h in
      rw (lines_of_digits n s p.0 (eqb-true (get_or s n 0) 10 p.1), p.0)

-- 6 digits and 0A: a layout or no frame
pub short_line : (s : List ℕ) → digit_line 6 s ≡ true → frame_of (first_line s) ≡ cond (eqb (kind_of s) 1) (some (layout_frame (field_at 2 s))) none
short_line s h =
    digit_line_frame 6 s h
    ∙ six_digits (take 6 s) (length-take-le 6 s (le_of_lt (digit_line_within 6 s h)))
    ∙ rw (kind_of_take 6 s (omega arith), number_of_take 4 2 4 s (omega arith))

-- 10 digits and 0A: a job, a solo job, an end or no frame
pub long_line : (s : List ℕ) → digit_line 10 s ≡ true → frame_of (first_line s) ≡ long_frame (eqb (kind_of s)) (field_at 2 s) (field_at 6 s)
long_line s h =
    digit_line_frame 10 s h
    ∙ ten_digits (take 10 s) (length-take-le 10 s (le_of_lt (digit_line_within 10 s h)))
    ∙ rw (kind_of_take 10 s (omega arith), number_of_take 4 2 8 s (omega arith), number_of_take 4 6 4 s (omega arith))

-- 12 digits and 0A: a job with a window or no frame
pub windowed_line_lem : (s : List ℕ) → digit_line 12 s ≡ true → frame_of (first_line s) ≡ cond (eqb (kind_of s) 5) (some (window_frame (field_at 2 s) (field_at 6 s) (window_at 10 s))) none
windowed_line_lem s h =
    digit_line_frame 12 s h
    ∙ twelve_digits (take 12 s) (length-take-le 12 s (le_of_lt (digit_line_within 12 s h)))
    ∙ rw (kind_of_take 12 s (omega arith), number_of_take 4 2 10 s (omega arith), number_of_take 4 6 6 s (omega arith), number_of_take 2 10 2 s (omega arith))

-- ---- the line of a frame

-- it is digits and 0A
digits_in : (s : List ℕ) (f : Table.Frame) (ls : List Line) → lines s ≡ ls → frame_of (first_of ls) ≡ some f → digit_line (width f - 1) s ≡ true
unfolding digit_line frame_of
digits_in s f [] e q = let z : ◌≡◌ {A = ℕ} 0 1 = cc in absurd (omega arith)
digits_in s f (unterminated l ∷ ls) e q = let z : ◌≡◌ {A = ℕ} 0 1 = cc in absurd (omega arith)
digits_in s f (terminated l ∷ ls) e q = go (all_of is_digit l) refl q
  where
    go : (t : Bool) → all_of is_digit l ≡ t → cond t (frame_of_kind l) none ≡ some f → digit_line (width f - 1) s ≡ true
    go false d q = let z : ◌≡◌ {A = ℕ} 0 1 = cc in absurd (omega arith)
    go true d q =
        let p = whole_line_leads s l ls e in
        let digits : width f - 1 ≡ length l = omega (arith, digits_wide l f q) in
        rw (digits, p.front, d, eq-eqb (get_or s (length l) 0) 10 p.end)

frame_digits : (s : List ℕ) (f : Table.Frame) → frame_of (first_line s) ≡ some f → digit_line (width f - 1) s ≡ true
unfolding first_line
frame_digits s f = digits_in s f (lines s) refl

-- neither 6 nor 10 nor 12 digits and 0A at the front: no frame, however long the first line is
pub no_frame : (s : List ℕ) → digit_line 6 s ≡ false → digit_line 10 s ≡ false → digit_line 12 s ≡ false → frame_of (first_line s) ≡ none
no_frame s short long windowed = go (frame_of (first_line s)) refl
  where
    never : (f : Table.Frame) → digit_line (width f - 1) s ≡ true → ⊥
    never (layout_frame p) d = true≢false (sym d ∙ short)
    never (job_frame t b) d = true≢false (sym d ∙ long)
    never (solo_frame t b) d = true≢false (sym d ∙ long)
    never (window_frame t b v) d = true≢false (sym d ∙ windowed)
    never (end_frame n m) d = true≢false (sym d ∙ long)

    go : (o : Option Table.Frame) → frame_of (first_line s) ≡ o → o ≡ none
    go none e = refl
    go (some f) e = absurd (never f (frame_digits s f e))

-- ---- the lines after the first

pub width_some : (f : Table.Frame) → 0 < width f
width_some (layout_frame p) = omega arith
width_some (job_frame t b) = omega arith
width_some (solo_frame t b) = omega arith
width_some (window_frame t b v) = omega arith
width_some (end_frame n m) = omega arith

-- after the line of a frame come the lines of the bytes past it
pub record NextLine (s : List ℕ) (f : Table.Frame) : Type 0 where
  pub within : width f ≤ length s
  pub after : lines s ≡ first_line s ∷ lines (drop (width f) s)

pub next_line : (s : List ℕ) (f : Table.Frame) → frame_of (first_line s) ≡ some f → NextLine s f
next_line s f e =
    let d = frame_digits s f e in
    let wide : width f ≡ suc (width f - 1) = omega (arith, width_some f) in
    record { within = rw wide (digit_line_within (width f - 1) s d); after = rw wide (digit_line_first (width f - 1) s d) }

-- how wide the line of a job or an end is, by where it has its 0A
abbrev pub job_width : List ℕ → ℕ
job_width s = cond (ends_after 10 s) 11 13

-- and that of any frame: a layout's has it after 6 bytes
abbrev pub width_by_end : List ℕ → ℕ
width_by_end s = cond (ends_after 6 s) 7 (job_width s)

pub width_by_end_lem : (s : List ℕ) (f : Table.Frame) → frame_of (first_line s) ≡ some f → width f ≡ width_by_end s
width_by_end_lem s f e = go f (frame_digits s f e)
  where
    long : digit_line 10 s ≡ true → 11 ≡ width_by_end s
    long d = rw (digit_line_no_end 10 s d 6 (omega arith), digit_line_end 10 s d)

    go : (f : Table.Frame) → digit_line (width f - 1) s ≡ true → width f ≡ width_by_end s
    go (layout_frame p) d = rw (digit_line_end 6 s d)
    go (job_frame t b) d = long d
    go (solo_frame t b) d = long d
    go (window_frame t b v) d = rw (digit_line_no_end 12 s d 6 (omega arith), digit_line_no_end 12 s d 10 (omega arith))
    go (end_frame n m) d = long d

lead_first : (b : ℕ) (ls : List Line) → (rest : List Line) × (lead b ls ≡ first_of (lead b ls) ∷ rest)
unfolding lead
lead_first b [] = ([], refl)
lead_first b (terminated l ∷ ls) = (ls, refl)
lead_first b (unterminated l ∷ ls) = (ls, refl)

-- where bytes are left there is a first line
pub some_line : (s : List ℕ) → 0 < length s → (rest : List Line) × (lines s ≡ first_line s ∷ rest)
unfolding lines first_line
some_line [] h = absurd (omega arith)
some_line (b ∷ bs) h = go (eqb b 10)
  where
    go : (t : Bool) → (rest : List Line) × (cond t (terminated [] ∷ lines bs) (lead b (lines bs)) ≡ first_of (cond t (terminated [] ∷ lines bs) (lead b (lines bs))) ∷ rest)
    go true = (lines bs, refl)
    go false = lead_first b (lines bs)

-- ---- what the answer of a line tells of it

-- the line holds f, with a window that there is
pub record FrameThere (f : Table.Frame) (o : Option Table.Frame) : Type 0 where
  pub there : o ≡ some f
  pub known : beyond_windows f ≡ false

pub frame_answered : (f : Frame) (line : ℕ) (o : Option Table.Frame) → found (frame_case f) ≡ line_answer line o → FrameThere (frame_case f) o
frame_answered f line none e = let apart : ◌≡◌ {A = ℕ} 0 1 = cc in absurd (omega arith)
frame_answered f line (some g) e = go (beyond_windows g) refl e
  where
    go : (t : Bool) → beyond_windows g ≡ t → found (frame_case f) ≡ cond t (refusal 9 line) (found g) → FrameThere (frame_case f) (some g)
    go true b z = let apart : ◌≡◌ {A = ℕ} 0 1 = cc in absurd (omega arith)
    go false b z = let is : frame_case f ≡ g = cc in rw is (record { there = refl; known = b })
