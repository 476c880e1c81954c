-- Laws of the work cells: what stays in front of a part that is changed, and the segment tree at their end, lent and come back.
use Rattle.std.specs.Prelude.{ℕ, ◌+◌, ◌-◌, ◌*◌, ◌<◌, ◌≤◌, ◌≡◌, refl, List, ◌++◌, length, get_or, set, take, drop}
use Rattle.std.proofs.Common.{sym, ap, ◌∙◌, append-nil, arith, length-drop, length-set, drop_of_length-le, take_all, length-take-le, drop_at, get_or-take, get_or-set_same, get_or-set_other, drop-set-lt}
use Rattle.std.proofs.Math.Decide.{ℕ_discrete}
use borrow.Rule.Slice.PartMut.{put_mid, take_put, same_len_mid}
use Rattle.schedule.specs.InWork.{slot_part, tree_part}
use Rattle.sweep_laws.specs.SegmentTree.{Entry, entries_in, insert_entry, remove_entry, SegmentTree, Holding, Inserted, Removed}

-- the first cells are as they were
pub record FrontKept (count : ℕ) (old new : List ℕ) : Type 0 where
  pub same : length new ≡ length old
  pub kept : (y : ℕ) → y < count → get_or new y 0 ≡ get_or old y 0

pub front_refl : (count : ℕ) (work : List ℕ) → FrontKept count work work
front_refl count work = record { same = refl; kept = λ y h. refl }

pub front_both : (count : ℕ) (a b c : List ℕ) → FrontKept count a b → FrontKept count b c → FrontKept count a c
front_both count a b c f g = record { same = g.same ∙ f.same; kept = λ y h. g.kept y h ∙ f.kept y h }

-- fewer of them
pub front_less : (m n : ℕ) (a b : List ℕ) → m ≤ n → FrontKept n a b → FrontKept m a b
front_less m n a b h f = record { same = f.same; kept = λ y l. f.kept y (omega arith) }

-- a store past them
pub front_set : (count : ℕ) (work : List ℕ) (y v : ℕ) → count ≤ y → FrontKept count work (set work y v)
front_set count work y v h =
    record { same = length-set work y v; kept = λ x l. get_or-set_other work y x v 0 (λ e. omega arith) }

-- the same store into both
pub front_set_both : (count : ℕ) (a b : List ℕ) (y v : ℕ) → y < length a → FrontKept count a b → FrontKept count (set a y v) (set b y v)
front_set_both count a b y v inside f =
    record {
      same = length-set b y v ∙ f.same ∙ sym (length-set a y v);
      kept = λ x h. elim (ℕ_discrete x y) [
        | yes e ↦ rw (e, get_or-set_same a y v 0 inside, get_or-set_same b y v 0 (rw f.same inside)) refl
        | no e ↦ rw (get_or-set_other a y x v 0 e, get_or-set_other b y x v 0 e) (f.kept x h)
      ];
    }

-- ---- the end of a list, lent and come back

module _ (a : ℕ) (xs ys : List ℕ) (within : a ≤ length xs) (same : length ys ≡ length xs - a) where
  tail_back : drop a (put_mid a (length xs - a) xs ys) ≡ ys
  tail_back =
      drop_at (take a xs) (ys ++ drop (length xs - a) (drop a xs)) a (length-take-le a xs within)
      ∙ ap (λ (l : List ℕ). ys ++ l) (drop_of_length-le (drop a xs) {i = length xs - a} (rw (length-drop a xs) (omega arith)))
      ∙ append-nil ys

  front_back : (y : ℕ) → y < a → get_or (put_mid a (length xs - a) xs ys) y 0 ≡ get_or xs y 0
  front_back y h =
      sym (get_or-take a (put_mid a (length xs - a) xs ys) y 0 h)
      ∙ ap (λ (l : List ℕ). get_or l y 0) (take_put a (length xs - a) xs ys within)
      ∙ get_or-take a xs y 0 h

-- the whole end of a list
pub mid_tail : (a : ℕ) (xs : List ℕ) → take (length xs - a) (drop a xs) ≡ drop a xs
mid_tail a xs = take_all (length xs - a) (drop a xs) (rw (length-drop a xs) (omega arith))

-- ---- the tree

-- what stands after the parts of n places
abbrev pub tree_in : ℕ → List ℕ → List ℕ
tree_in n work = drop (tree_part * n) work

-- the tree has come to hold these entries, and nothing in front of it has changed
pub record TreeChanged (n kept width : ℕ) (es : List Entry) (old new : List ℕ) : Type 0 where
  pub front : FrontKept (tree_part * n) old new
  pub tree : SegmentTree kept width (tree_in n new)
  pub entries_are : entries_in width (tree_in n new) ≡ es

pub tree_back : (n kept width : ℕ) (f : List ℕ → List Entry) (work nodes : List ℕ) → tree_part * n ≤ length work → length nodes ≡ length (take (length work - tree_part * n) (tree_in n work)) → Holding kept width (f (take (length work - tree_part * n) (tree_in n work))) (take (length work - tree_part * n) (tree_in n work)) nodes → TreeChanged n kept width (f (tree_in n work)) work (put_mid (tree_part * n) (length work - tree_part * n) work nodes)
tree_back n kept width f work nodes within same h =
    let long : length nodes ≡ length work - tree_part * n = same ∙ ap (λ (l : List ℕ). length l) (mid_tail (tree_part * n) work) ∙ length-drop (tree_part * n) work in
    let back : tree_in n (put_mid (tree_part * n) (length work - tree_part * n) work nodes) ≡ nodes = tail_back (tree_part * n) work nodes within long in
    record {
      front = record { same = same_len_mid (tree_part * n) (length work - tree_part * n) work nodes same; kept = front_back (tree_part * n) work nodes within long };
      tree = rw back h.tree;
      entries_are = ap (entries_in width) back ∙ h.entries_are ∙ ap f (mid_tail (tree_part * n) work);
    }

module _ (n kept width p : ℕ) (work nodes : List ℕ) (slot : ℕ) (slot_is : slot ≡ get_or work (slot_part * n + p) 0) (room : tree_part * n ≤ length work) (same : length nodes ≡ length (take (length work - tree_part * n) (tree_in n work))) where
  -- a place has come into it
  pub place_inserted : Inserted kept width (take (length work - tree_part * n) (tree_in n work)) slot p nodes → TreeChanged n kept width (insert_entry (get_or work (slot_part * n + p) 0) p (entries_in width (tree_in n work))) work (put_mid (tree_part * n) (length work - tree_part * n) work nodes)
  place_inserted h = tree_back n kept width (λ (l : List ℕ). insert_entry (get_or work (slot_part * n + p) 0) p (entries_in width l)) work nodes room same (rw slot_is at h)

  -- a place has left it
  pub place_removed : Removed kept width (take (length work - tree_part * n) (tree_in n work)) slot nodes → TreeChanged n kept width (remove_entry (get_or work (slot_part * n + p) 0) (entries_in width (tree_in n work))) work (put_mid (tree_part * n) (length work - tree_part * n) work nodes)
  place_removed h = tree_back n kept width (λ (l : List ℕ). remove_entry (get_or work (slot_part * n + p) 0) (entries_in width l)) work nodes room same (rw slot_is at h)

-- a store in front of the tree leaves it alone
pub tree_set : (n : ℕ) (work : List ℕ) (y v : ℕ) → y < tree_part * n → tree_in n (set work y v) ≡ tree_in n work
tree_set n work y v h = drop-set-lt (tree_part * n) work y v h
