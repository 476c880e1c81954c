-- The layouts and jobs held in the cells: none, one more, and all.
use Prim.Native.Nat.{ℕ, zero, suc, ◌+◌, ◌-◌, ◌≤◌, ◌<◌}
use Rattle.std.specs.Prelude.{◌≡◌, refl, false, true, List, [], ◌∷◌, ◌++◌, get_or, take, drop, set, replicate, Option, Some, None, Result, Ok, Err}
use Rattle.std.proofs.Common.{sym, subst, ◌∙◌, true≢false, append-nil, append_assoc, add-zero, add-one, length-set, length-append, drop-set-lt, take-suc-set, drop-drop, length-take-le, get_or-drop}
use Rattle.std.proofs.Math.Nat.{zero-add}
use Rattle.std.proofs.Math.Decide.{dec_lt}
use native.Mathlib.Omega.{arith}
use Rattle.std.proofs.Math.ListN.{length, get_or-append}
use Rattle.std.proofs.lemmas.List.{get_or-replicate, get_or_at, set-get_or}
use Rattle.model.specs.Tree.{FFFF, layout_limit, layouts_from}
use Rattle.model.specs.Table.{lines, extended, stopped, read_table}
use Rattle.model.specs.Answers.{reason_number}
use Rattle.model.specs.declared.Refusal.{Refusal}
use Rattle.tree_laws.specs.WellFormed.{layouts_more}
use Rattle.own_line.specs.OwnLine.{job_lines, own_lines_from}
use Rattle.reading.specs.Steps.{read_from, ended_at, LayoutLine, JobLine, EndLine, Unused, Room, Roomy, BuffersReady, held, Standing, SoFar, read_after, EndRead, LinesRead, Stopped}
use Rattle.reading.specs.Lines.{no_bytes}
use Rattle.reading.specs.declared.Ended.{Ended}

-- ---- cells

-- there are cells for job m
pub record JobCells (tops bottoms marks windows : List ℕ) (m : ℕ) : Type 0 where
  pub top_cell : m < length tops
  pub bottom_cell : m < length bottoms
  pub mark_cell : m < length marks
  pub window_cell : m < length windows

replicate_tail : (v k : ℕ) → drop 1 (replicate k v) ≡ replicate (k - 1) v
replicate_tail v zero = refl
replicate_tail v (suc k) = let one_less : suc k - 1 ≡ k = omega arith in rw one_less

-- one cell more is used
unused_more : (v n a : ℕ) (cells : List ℕ) → n < length cells → Unused v n cells → Unused v (n + 1) (set cells n a)
unused_more v n a cells h u =
    let fewer : length cells - n - 1 ≡ length cells - (n + 1) = omega arith in
    rw (length-set cells n a, drop-set-lt (n + 1) cells n a (omega arith), ← drop-drop 1 n cells, u, replicate_tail v (length cells - n), fewer)

-- a cell that is not used holds v already
unwritten : (v n : ℕ) (cells : List ℕ) → n < length cells → Unused v n cells → set cells n v ≡ cells
unwritten v n cells h u =
    let left : 0 < length cells - n = omega arith in
    let first : get_or cells (n + 0) 0 ≡ v = sym (get_or-drop n cells 0 0) ∙ rw u (get_or-replicate (length cells - n) 0 v 0 left) in
    subst (λ (a : ℕ). set cells n a ≡ cells) (rw add-zero at first) (set-get_or cells n 0)

used_more : (n a : ℕ) (cells : List ℕ) → n < length cells → take (n + 1) (set cells n a) ≡ take n cells ++ (a ∷ [])
used_more n a cells h = rw add-one (take-suc-set cells n a h)

-- ---- the own lines

-- one job more has its line
standing_more : (own : List ℕ) (m k : ℕ) → length own ≡ m → Standing own m k → Standing (own ++ (k + 1) ∷ []) (m + 1) (k + 1)
standing_more own m k e s j h = elim (dec_lt j m) [
  | yes old ↦ rw (get_or-append own ((k + 1) ∷ []) 0 j (omega arith)) ((s j old).0, omega (arith, (s j old).1))
  | no new ↦ rw (get_or_at own (k + 1) [] 0 j (omega arith)) (omega arith, omega arith)
]

-- ---- so far

-- a count whose end was not read is 0
no_ends : (ends : ℕ) → ended_at ends ≡ false → ends ≡ 0
no_ends zero e = refl
no_ends (suc ends) e = absurd (true≢false e)

module _ (bytes parents tops bottoms marks windows : List ℕ) where
  -- nothing is read
  pub so_far_none : BuffersReady bytes parents tops bottoms marks windows → SoFar bytes parents tops bottoms marks windows 0 0 0 0
  unfolding layouts_from read_table
  so_far_none b =
      record {
        holds =
            record {
              few_layouts = omega arith;
              few_jobs_lem = omega arith;
              parents_hold = omega arith;
              tops_hold = omega arith;
              bottoms_hold = omega arith;
              marks_hold = omega arith;
              windows_hold = omega arith;
              right = refl;
              spare = b.clear;
            };
        one_end = omega arith;
        end_last = λ h. h;
        within = omega arith;
        passed = omega arith;
        own = [];
        counted = refl;
        standing = λ j h. absurd (omega arith);
        ahead = refl;
        next = refl;
      }

  module _ (at n m ends : ℕ) (s : SoFar bytes parents tops bottoms marks windows at n m ends) where
    counted_layouts : length (take n parents) ≡ n
    counted_layouts = length-take-le n parents s.holds.parents_hold

    counted_jobs : length (take m tops) ≡ m
    counted_jobs = length-take-le m tops s.holds.tops_hold

    module _ (p : ℕ) (l : LayoutLine bytes at (n + m + ends + 1) (held parents tops bottoms marks windows n m) s.own (ended_at ends) p) where
      -- there is a cell for it
      pub layout_room : layout_limit ≤ length parents → n < length parents
      layout_room h = omega (arith, l.room, counted_layouts)

      -- a layout more
      pub so_far_layout : layout_limit ≤ length parents → SoFar bytes (set parents n p) tops bottoms marks windows (at + 7) (n + 1) m ends
      unfolding extended
      so_far_layout long =
          let h = s.holds in
          let room : n < length parents = layout_room long in
          let next_line : suc (n + m + ends + 1) ≡ n + 1 + m + ends + 1 = omega arith in
          record {
            holds =
                record {
                  few_layouts = omega (arith, l.room, counted_layouts);
                  few_jobs_lem = h.few_jobs_lem;
                  parents_hold = rw (length-set parents n p) (omega arith);
                  tops_hold = h.tops_hold;
                  bottoms_hold = h.bottoms_hold;
                  marks_hold = h.marks_hold;
                  windows_hold = h.windows_hold;
                  right = rw (used_more n p parents room) (layouts_more 0 (take n parents) p h.right (rw zero-add l.right));
                  spare =
                      record {
                        parents_spare = unused_more FFFF n p parents room h.spare.parents_spare;
                        tops_spare = h.spare.tops_spare;
                        bottoms_spare = h.spare.bottoms_spare;
                        marks_spare = h.spare.marks_spare;
                        windows_spare = h.spare.windows_spare;
                      };
                };
            one_end = s.one_end;
            end_last = λ k. omega arith;
            within = l.within;
            passed = omega (arith, s.passed);
            own = s.own;
            counted = s.counted;
            standing = λ j k. ((s.standing j k).0, omega (arith, (s.standing j k).1));
            ahead = rw (l.not_ended, ← next_line, ← l.ahead) (rw l.not_ended at s.ahead);
            next = rw l.not_ended (rw l.not_ended at s.next ∙ (rw l.not_ended at l.next) ∙ rw (used_more n p parents room, next_line) refl);
          }

    module _ (t b mark v w : ℕ) (wide : 11 ≤ w) (l : JobLine bytes at (n + m + ends + 1) (held parents tops bottoms marks windows n m) s.own (ended_at ends) t b mark v w)
        (room : Roomy bytes parents tops bottoms marks windows) where
      job_room : (cells : List ℕ) → Room bytes cells → m < length cells
      job_room cells h = h m (omega (arith, l.room, counted_jobs)) (omega (arith, l.within, s.passed))

      -- there are cells for it
      pub job_cells : JobCells tops bottoms marks windows m
      job_cells =
          record {
            top_cell = job_room tops room.tops_room;
            bottom_cell = job_room bottoms room.bottoms_room;
            mark_cell = job_room marks room.marks_room;
            window_cell = job_room windows room.windows_room;
          }

      -- a job more
      so_far_job : SoFar bytes parents (set tops m t) (set bottoms m b) (set marks m mark) (set windows m v) (at + w) n (m + 1) ends
      so_far_job =
          let h = s.holds in
          let c = job_cells in
          let still : ends ≡ 0 = no_ends ends l.not_ended in
          let here : n + m + ends + 1 ≡ n + m + 1 = omega arith in
          let next_line : suc (n + m + ends + 1) ≡ n + (m + 1) + ends + 1 = omega arith in
          record {
            holds =
                record {
                  few_layouts = h.few_layouts;
                  few_jobs_lem = omega (arith, l.room, counted_jobs);
                  parents_hold = h.parents_hold;
                  tops_hold = rw (length-set tops m t) (omega (arith, c.top_cell));
                  bottoms_hold = rw (length-set bottoms m b) (omega (arith, c.bottom_cell));
                  marks_hold = rw (length-set marks m mark) (omega (arith, c.mark_cell));
                  windows_hold = rw (length-set windows m v) (omega (arith, c.window_cell));
                  right = h.right;
                  spare =
                      record {
                        parents_spare = h.spare.parents_spare;
                        tops_spare = unused_more FFFF m t tops c.top_cell h.spare.tops_spare;
                        bottoms_spare = unused_more FFFF m b bottoms c.bottom_cell h.spare.bottoms_spare;
                        marks_spare = unused_more 0 m mark marks c.mark_cell h.spare.marks_spare;
                        windows_spare = unused_more 0 m v windows c.window_cell h.spare.windows_spare;
                      };
                };
            one_end = s.one_end;
            end_last = s.end_last;
            within = l.within;
            passed = omega (arith, s.passed);
            own = s.own ++ (n + m + ends + 1) ∷ [];
            counted = rw (length-append s.own ((n + m + ends + 1) ∷ []), s.counted) (omega arith);
            standing = λ j k.
                let more = standing_more s.own m (n + m) s.counted s.standing j k in
                rw here (more.0, omega (arith, more.1));
            ahead =
                rw (l.not_ended, append_assoc s.own ((n + m + ends + 1) ∷ []) (own_lines_from bytes (at + w) (n + (m + 1) + ends + 1)), ← next_line, ← l.ahead)
                (rw l.not_ended at s.ahead);
            next =
                rw l.not_ended
                (rw l.not_ended at s.next
                ∙ (rw l.not_ended at l.next)
                ∙ rw (used_more m t tops c.top_cell, used_more m b bottoms c.bottom_cell, used_more m mark marks c.mark_cell, used_more m v windows c.window_cell, next_line) refl);
          }

    -- a job without a window leaves its window 0
    pub so_far_marked : (t b mark : ℕ) → JobLine bytes at (n + m + ends + 1) (held parents tops bottoms marks windows n m) s.own (ended_at ends) t b mark 0 11 → Roomy bytes parents tops bottoms marks windows
        → SoFar bytes parents (set tops m t) (set bottoms m b) (set marks m mark) windows (at + 11) n (m + 1) ends
    so_far_marked t b mark l room =
        rw (unwritten 0 m windows (job_cells t b mark 0 11 (omega arith) l room).window_cell s.holds.spare.windows_spare) at (so_far_job t b mark 0 11 (omega arith) l room)

    -- one with a window its mark
    pub so_far_windowed : (t b v : ℕ) → JobLine bytes at (n + m + ends + 1) (held parents tops bottoms marks windows n m) s.own (ended_at ends) t b 0 v 13 → Roomy bytes parents tops bottoms marks windows
        → SoFar bytes parents (set tops m t) (set bottoms m b) marks (set windows m v) (at + 13) n (m + 1) ends
    so_far_windowed t b v l room =
        rw (unwritten 0 m marks (job_cells t b 0 v 13 (omega arith) l room).mark_cell s.holds.spare.marks_spare) at (so_far_job t b 0 v 13 (omega arith) l room)

    -- the end
    pub so_far_end : EndLine bytes at (n + m + ends + 1) (held parents tops bottoms marks windows n m) s.own (ended_at ends) → SoFar bytes parents tops bottoms marks windows (at + 11) n m 1
    so_far_end l =
        let still : ends ≡ 0 = no_ends ends l.not_ended in
        let next_line : suc (n + m + ends + 1) ≡ n + m + 1 + 1 = omega arith in
        record {
          holds = s.holds;
          one_end = omega arith;
          end_last = λ k. omega (arith, l.some_layout, counted_layouts);
          within = l.within;
          passed = omega (arith, s.passed);
          own = s.own;
          counted = s.counted;
          standing = s.standing;
          ahead = rw (← l.ahead) (rw l.not_ended at s.ahead);
          next = rw l.not_ended at s.next ∙ (rw l.not_ended at l.next) ∙ rw next_line refl;
        }

-- ---- where the reading stops

module _ (bytes parents tops bottoms marks windows : List ℕ) (at n m : ℕ) where
  -- behind the end, with what stands there
  read_behind : (ends : ℕ) (s : SoFar bytes parents tops bottoms marks windows at n m (suc ends)) (a : Option Refusal)
      → read_from bytes at (n + m + suc ends + 1) (held parents tops bottoms marks windows n m) s.own true ≡ read_after a (held parents tops bottoms marks windows n m)
      → EndRead bytes parents tops bottoms marks windows n m a
  read_behind ends s a e =
      let whole : s.own ≡ job_lines 1 (lines bytes) = sym (append-nil s.own) ∙ s.ahead in
      record {
        holds = s.holds;
        some_layout = s.end_last (omega arith);
        standing = rw (← whole) s.standing;
        next = s.next ∙ rw (e, whole) refl;
      }

  -- a line is refused
  pub read_stopped : (ends : ℕ) (s : SoFar bytes parents tops bottoms marks windows at n m ends) (x : Refusal) (r : Result Ended Refusal)
      → read_from bytes at (n + m + ends + 1) (held parents tops bottoms marks windows n m) s.own (ended_at ends) ≡ stopped (reason_number x.reason) x.place
      → Stopped n m ends (Some x) (reason_number x.reason) x.place r → LinesRead bytes parents tops bottoms marks windows r
  read_stopped zero s x (Err y) e is = rw (is.0, is.1) (s.next ∙ e)
  read_stopped zero s x (Ok y) e is = absurd is
  read_stopped (suc ends) s x (Ok y) e is = rw is (read_behind ends s (Some x) e)
  read_stopped (suc ends) s x (Err y) e is = absurd is

  -- no bytes are left
  pub read_last : (ends : ℕ) (s : SoFar bytes parents tops bottoms marks windows at n m ends) (r : Result Ended Refusal) → length bytes ≤ at
      → Stopped n m ends None 7 (n + m + ends + 1) r → LinesRead bytes parents tops bottoms marks windows r
  read_last zero s (Err y) h is = rw (is.0, is.1) (s.next ∙ no_bytes bytes at (n + m + 0 + 1) (held parents tops bottoms marks windows n m) s.own false h)
  read_last zero s (Ok y) h is = absurd is
  read_last (suc ends) s (Ok y) h is = rw is (read_behind ends s None (no_bytes bytes at (n + m + suc ends + 1) (held parents tops bottoms marks windows n m) s.own true h))
  read_last (suc ends) s (Err y) h is = absurd is
