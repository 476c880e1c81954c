-- Laws of a segment tree's nodes: what clearing leaves, and what an insertion or a removal has done once it has come up to a node.
use Prim.Native.Nat.{ℕ, ◌+◌, ◌*◌, ◌/◌, ◌<◌, ◌≤◌, min}
use Rattle.std.specs.Prelude.{◌≡◌, refl, ◌≢◌, length, get_or, set}
use Rattle.std.proofs.Common.{sym, ◌∙◌, length-set, length-append, length-drop, get_or-set_same, get_or-set_other, drop-set-lt, drop_at}
use Rattle.std.proofs.Math.Path.{ap}
use mathlib.Core.List.{List, ◌++◌, append_assoc}
use native.Mathlib.Omega.{arith}
use Rattle.std.proofs.Math.Decide.{ℕ_discrete}
use Rattle.std.proofs.Math.ListN.{take, drop, replicate, get_or-append}
use Rattle.std.proofs.lemmas.List.{length-replicate, get_or-replicate, replicate-append-replicate, drop-set-add}
use Rattle.std.proofs.Math.Seq.{take-set-lt, take_at}
use Rattle.std.proofs.lemmas.List.Edits.{fill_more}
use Rattle.model.specs.Tree.{FFFF}
use Rattle.sweep_laws.specs.SegmentTree.{slots, entries, entries_in, SegmentTree, Cleared, Inserted, Removed, Clearable, Insertable}
use Rattle.sweep_laws.specs.EntryLaws.{slots_length, slot_cell, vacant_slot, entries_insert, entries_remove, no_entries}

-- a store into a slot
slot_set : (width : ℕ) (nodes : List ℕ) (slot p : ℕ) → slot < width → slots width (set nodes (width + slot) p) ≡ set (slots width nodes) slot p
unfolding slots
slot_set width nodes slot p h = rw (drop-set-add width nodes slot p, take-set-lt width (drop width nodes) slot p h)

-- a store in front of the slots changes none of them
inner_set : (width : ℕ) (nodes : List ℕ) (n p : ℕ) → n < width → slots width (set nodes n p) ≡ slots width nodes
unfolding slots
inner_set width nodes n p h = rw (drop-set-lt width nodes n p h)

-- what a way up from a slot keeps, `old` being the cells with the slot stored: no slot changes, and nothing past the tree
pub record Stored (kept width : ℕ) (old new : List ℕ) : Type 0 where
  pub some : 1 ≤ kept
  pub inside : kept ≤ width
  pub room : 2 * width ≤ length new
  pub same : length new ≡ length old
  pub holds : slots width new ≡ slots width old
  pub past : drop (2 * width) new ≡ drop (2 * width) old

module _ (kept width : ℕ) (cells : List ℕ) (slot p : ℕ) (s : SegmentTree kept width cells) (inside : slot < width) where
  stored_slot : Stored kept width (set cells (width + slot) p) (set cells (width + slot) p)
  stored_slot = record { some = s.some; inside = s.within; room = rw length-set s.room; same = refl; holds = refl; past = refl }

  -- every inner node but the parent of the slot is right
  stored_inner : (n : ℕ) → kept ≤ n → n < width → n ≢ (width + slot) / 2 → get_or (set cells (width + slot) p) n 0 ≡ min (get_or (set cells (width + slot) p) (2 * n) 0) (get_or (set cells (width + slot) p) (2 * n + 1) 0)
  stored_inner n a b other =
      let here : n ≡ width + slot → ⊥ = λ e. omega arith in
      let left : 2 * n ≡ width + slot → ⊥ = λ e. other (omega arith) in
      let right : 2 * n + 1 ≡ width + slot → ⊥ = λ e. other (omega arith) in
      rw (get_or-set_other cells (width + slot) n p 0 here, get_or-set_other cells (width + slot) (2 * n) p 0 left, get_or-set_other cells (width + slot) (2 * n + 1) p 0 right) (s.inner n a b)

  -- what the slots hold in the end
  stored_holds : (new : List ℕ) → Stored kept width (set cells (width + slot) p) new → slots width new ≡ set (slots width cells) slot p
  stored_holds new r = r.holds ∙ slot_set width cells slot p inside

  stored_past : (new : List ℕ) → Stored kept width (set cells (width + slot) p) new → drop (2 * width) new ≡ drop (2 * width) cells
  stored_past new r = r.past ∙ drop-set-lt (2 * width) cells (width + slot) p (omega arith)

-- a store into an inner node
stored_node : (kept width : ℕ) (old new : List ℕ) (n v : ℕ) → n < width → Stored kept width old new → Stored kept width old (set new n v)
stored_node kept width old new n v h r =
    record {
      some = r.some;
      inside = r.inside;
      room = rw length-set r.room;
      same = rw length-set r.same;
      holds = inner_set width new n v h ∙ r.holds;
      past = drop-set-lt (2 * width) new n v (omega arith) ∙ r.past;
    }

-- ---- an insertion on its way up

-- it has come up to `node`: every other inner node is right, and this one is right once it takes p
pub record Inserting (kept width p : ℕ) (old new : List ℕ) (node : ℕ) : Type 0 where
  pub stored : Stored kept width old new
  pub within : node < width
  pub inner : (n : ℕ) → kept ≤ n → n < width → n ≢ node → get_or new n 0 ≡ min (get_or new (2 * n) 0) (get_or new (2 * n + 1) 0)
  pub next : kept ≤ node → min (get_or new node 0) p ≡ min (get_or new (2 * node) 0) (get_or new (2 * node + 1) 0)

-- where the parent of a node is right, it is right again once both take p
parent_right : (new : List ℕ) (node p v : ℕ) → 2 ≤ node → node < length new → v ≡ min (get_or new node 0) p → get_or new (node / 2) 0 ≡ min (get_or new (2 * (node / 2)) 0) (get_or new (2 * (node / 2) + 1) 0) → min (get_or (set new node v) (node / 2) 0) p ≡ min (get_or (set new node v) (2 * (node / 2)) 0) (get_or (set new node v) (2 * (node / 2) + 1) 0)
parent_right new node p v h inside v-is right =
    let m : ℕ = node / 2 in
    let here : get_or (set new node v) m 0 ≡ get_or new m 0 = get_or-set_other new node m v 0 (λ e. omega arith) in
    elim (ℕ_discrete node (2 * m)) [
      | yes even ↦
          let one : get_or (set new node v) (2 * m) 0 ≡ v = rw (← even) (get_or-set_same new node v 0 inside) in
          let other : get_or (set new node v) (2 * m + 1) 0 ≡ get_or new (2 * m + 1) 0 = get_or-set_other new node (2 * m + 1) v 0 (λ e. omega arith) in
          let at : get_or new node 0 ≡ get_or new (2 * m) 0 = ap (λ (n : ℕ). get_or new n 0) even in
          rw (here, one, other) (omega arith)
      | no odd ↦
          let is : node ≡ 2 * m + 1 = omega arith in
          let one : get_or (set new node v) (2 * m + 1) 0 ≡ v = rw (← is) (get_or-set_same new node v 0 inside) in
          let other : get_or (set new node v) (2 * m) 0 ≡ get_or new (2 * m) 0 = get_or-set_other new node (2 * m) v 0 (λ e. omega arith) in
          let at : get_or new node 0 ≡ get_or new (2 * m + 1) 0 = ap (λ (n : ℕ). get_or new n 0) is in
          rw (here, one, other) (omega arith)
    ]

-- the slot is stored
pub inserting_slot : (kept width : ℕ) (cells : List ℕ) (slot p : ℕ) → Insertable kept width cells slot p → Inserting kept width p (set cells (width + slot) p) (set cells (width + slot) p) ((width + slot) / 2)
inserting_slot kept width cells slot p i =
    let empty : get_or cells (width + slot) 0 ≡ FFFF = sym (slot_cell width cells i.tree.room slot i.inside) ∙ vacant_slot (slots width cells) slot i.vacant in
    record {
      stored = stored_slot kept width cells slot p i.tree i.inside;
      within = omega (arith, i.inside);
      inner = stored_inner kept width cells slot p i.tree i.inside;
      next = λ h. parent_right cells (width + slot) p p (omega arith) (omega (arith, i.tree.room, i.inside)) (omega (arith, i.some_place)) (i.tree.inner ((width + slot) / 2) h (omega (arith, i.inside)));
    }

module _ (kept width p : ℕ) where
  -- the node takes p
  pub inserting_step : (old new : List ℕ) (node v : ℕ) → kept ≤ node → v ≡ min (get_or new node 0) p → Inserting kept width p old new node → Inserting kept width p old (set new node v) (node / 2)
  inserting_step old new node v h v-is r =
      let inside : node < length new = omega (arith, r.within, r.stored.room) in
      record {
        stored = stored_node kept width old new node v r.within r.stored;
        within = omega (arith, r.within);
        inner = λ n a b other. elim (ℕ_discrete n node) [
          | yes e ↦
              let left : 2 * node ≢ node = λ e. omega arith in
              let right : 2 * node + 1 ≢ node = λ e. omega arith in
              rw (e, get_or-set_same new node v 0 inside, get_or-set_other new node (2 * node) v 0 left, get_or-set_other new node (2 * node + 1) v 0 right) (v-is ∙ r.next h)
          | no e ↦
              let left : 2 * n ≢ node = λ e. other (omega arith) in
              let right : 2 * n + 1 ≢ node = λ e. other (omega arith) in
              rw (get_or-set_other new node n v 0 e, get_or-set_other new node (2 * n) v 0 left, get_or-set_other new node (2 * n + 1) v 0 right) (r.inner n a b e)
        ];
        next = λ some. parent_right new node p v (omega arith) inside v-is (r.inner (node / 2) some (omega (arith, r.within)) (λ e. omega arith));
      }

  -- the root has no parent
  pub inserting_done : (cells : List ℕ) (slot : ℕ) (new : List ℕ) (node : ℕ) → node < kept → Insertable kept width cells slot p → Inserting kept width p (set cells (width + slot) p) new node → Inserted kept width cells slot p new
  inserting_done cells slot new node top i r =
      record {
        tree = record { some = r.stored.some; within = r.stored.inside; room = r.stored.room; inner = λ n a b. r.inner n a b (λ e. omega arith) };
        entries_are = ap entries (stored_holds kept width cells slot p i.tree i.inside new r.stored) ∙ entries_insert (slots width cells) slot p (rw (slots_length width cells i.tree.room) i.inside) i.some_place i.vacant;
        past = stored_past kept width cells slot p i.tree i.inside new r.stored;
      }

-- ---- a removal on its way up

-- it has come up to `node`, where the smallest place is `least`: every inner node but its parent is right
pub record Removing (kept width : ℕ) (old new : List ℕ) (node least : ℕ) : Type 0 where
  pub stored : Stored kept width old new
  pub from_kept : kept ≤ node
  pub within : node < 2 * width
  pub least_is : least ≡ get_or new node 0
  pub inner : (n : ℕ) → kept ≤ n → n < width → n ≢ node / 2 → get_or new n 0 ≡ min (get_or new (2 * n) 0) (get_or new (2 * n + 1) 0)

-- a and b are the two nodes under one parent
abbrev pub Siblings : ℕ → ℕ → Type 0
Siblings a b = a + b ≡ 4 * (b / 2) + 1

-- the smaller of a node and its sibling
siblings : (new : List ℕ) (node sibling : ℕ) → Siblings sibling node → min (get_or new node 0) (get_or new sibling 0) ≡ min (get_or new (2 * (node / 2)) 0) (get_or new (2 * (node / 2) + 1) 0)
siblings new node sibling beside = elim (ℕ_discrete node (2 * (node / 2))) [
  | yes even ↦
      let other : sibling ≡ 2 * (node / 2) + 1 = omega arith in
      let at : get_or new node 0 ≡ get_or new (2 * (node / 2)) 0 = ap (λ (n : ℕ). get_or new n 0) even in
      rw other (omega arith)
  | no odd ↦
      let is : node ≡ 2 * (node / 2) + 1 = omega arith in
      let other : sibling ≡ 2 * (node / 2) = omega arith in
      let at : get_or new node 0 ≡ get_or new (2 * (node / 2) + 1) 0 = ap (λ (n : ℕ). get_or new n 0) is in
      rw other (omega arith)
]

module _ (kept width : ℕ) (cells : List ℕ) (slot : ℕ) (s : SegmentTree kept width cells) (inside : slot < width) where
  -- the slot is emptied
  pub removing_slot : Removing kept width (set cells (width + slot) FFFF) (set cells (width + slot) FFFF) (width + slot) FFFF
  removing_slot =
      record {
        stored = stored_slot kept width cells slot FFFF s inside;
        from_kept = omega (arith, s.within);
        within = omega arith;
        least_is = sym (get_or-set_same cells (width + slot) FFFF 0 (omega (arith, s.room)));
        inner = stored_inner kept width cells slot FFFF s inside;
      }

  -- the root has no parent
  pub removing_done : (new : List ℕ) (node least : ℕ) → node < 2 * kept → Removing kept width (set cells (width + slot) FFFF) new node least → Removed kept width cells slot new
  removing_done new node least top r =
      record {
        tree = record { some = r.stored.some; within = r.stored.inside; room = r.stored.room; inner = λ n a b. r.inner n a b (λ e. omega arith) };
        entries_are = ap entries (stored_holds kept width cells slot FFFF s inside new r.stored) ∙ entries_remove (slots width cells) slot;
        past = stored_past kept width cells slot FFFF s inside new r.stored;
      }

-- the parent takes the smaller of the node and its sibling
pub removing_step : (kept width : ℕ) (old new : List ℕ) (node least sibling v : ℕ) → 2 * kept ≤ node → Siblings sibling node → v ≡ min least (get_or new sibling 0) → Removing kept width old new node least → Removing kept width old (set new (node / 2) v) (node / 2) v
removing_step kept width old new node least sibling v h beside v-is r =
    let m : ℕ = node / 2 in
    let below : m < width = omega (arith, r.within) in
    let inside : m < length new = omega (arith, r.stored.room) in
    let both : v ≡ min (get_or new (2 * m) 0) (get_or new (2 * m + 1) 0) = v-is ∙ ap (λ (x : ℕ). min x (get_or new sibling 0)) r.least_is ∙ siblings new node sibling beside in
    record {
      stored = stored_node kept width old new m v below r.stored;
      from_kept = omega arith;
      within = omega arith;
      least_is = sym (get_or-set_same new m v 0 inside);
      inner = λ n a b other.
          let left : 2 * n ≢ m = λ e. other (omega arith) in
          let right : 2 * n + 1 ≢ m = λ e. other (omega arith) in
          rw (get_or-set_other new m (2 * n) v 0 left, get_or-set_other new m (2 * n + 1) v 0 right) (elim (ℕ_discrete n m) [
            | yes e ↦ rw (e, get_or-set_same new m v 0 inside) both
            | no e ↦ rw (get_or-set_other new m n v 0 e) (r.inner n a b e)
          ]);
    }

-- ---- clearing

-- the first `at` cells are cleared
pub record ClearedTo (width : ℕ) (old new : List ℕ) (at : ℕ) : Type 0 where
  pub within : at ≤ 2 * width
  pub filled : new ≡ replicate at FFFF ++ drop at old

module _ (kept width : ℕ) (old : List ℕ) (b : Clearable kept width old) where
  room : 2 * width ≤ length old
  room = b.room

  cleared_length : (at : ℕ) → at ≤ 2 * width → length (replicate at FFFF ++ drop at old) ≡ length old
  cleared_length at h = rw (length-append (replicate at FFFF) (drop at old), length-replicate at FFFF, length-drop at old) (omega arith)

  pub cleared_same : (at : ℕ) (new : List ℕ) → ClearedTo width old new at → length new ≡ length old
  cleared_same at new c = ap length c.filled ∙ cleared_length at c.within

  pub cleared_step : (at : ℕ) (new : List ℕ) → at < 2 * width → ClearedTo width old new at → ClearedTo width old (set new at FFFF) (at + 1)
  cleared_step at new h c =
      record {
        within = omega arith;
        filled = ap (λ (l : List ℕ). set l at FFFF) c.filled ∙ fill_more at FFFF old (omega arith);
      }

  cleared_at : (n : ℕ) → n < 2 * width → get_or (replicate (2 * width) FFFF ++ drop (2 * width) old) n 0 ≡ FFFF
  cleared_at n h = get_or-append (replicate (2 * width) FFFF) (drop (2 * width) old) 0 n (rw length-replicate h) ∙ get_or-replicate (2 * width) n FFFF 0 h

  cleared_tree : SegmentTree kept width (replicate (2 * width) FFFF ++ drop (2 * width) old)
  cleared_tree =
      record {
        some = b.some;
        within = b.within;
        room = rw (cleared_length (2 * width) (omega arith)) room;
        inner = λ n a b. rw (cleared_at n (omega arith), cleared_at (2 * n) (omega arith), cleared_at (2 * n + 1) (omega arith));
      }

  cleared_slots : slots width (replicate (2 * width) FFFF ++ drop (2 * width) old) ≡ replicate width FFFF
  unfolding slots
  cleared_slots =
      let rest : List ℕ = drop (2 * width) old in
      let twice : 2 * width ≡ width + width = omega arith in
      let split : replicate (2 * width) FFFF ++ rest ≡ replicate width FFFF ++ (replicate width FFFF ++ rest) = ap (λ (n : ℕ). replicate n FFFF ++ rest) twice ∙ ap (λ (l : List ℕ). l ++ rest) (sym (replicate-append-replicate width width FFFF)) ∙ append_assoc (replicate width FFFF) (replicate width FFFF) rest in
      ap (λ (l : List ℕ). take width (drop width l)) split
      ∙ ap (λ (l : List ℕ). take width l) (drop_at (replicate width FFFF) (replicate width FFFF ++ rest) width (length-replicate width FFFF))
      ∙ take_at (replicate width FFFF) rest width (length-replicate width FFFF)

  pub cleared_all : (at : ℕ) (new : List ℕ) → 2 * width ≤ at → ClearedTo width old new at → Cleared kept width old new
  cleared_all at new h c =
      let e : at ≡ 2 * width = omega (arith, c.within) in
      let whole : new ≡ replicate (2 * width) FFFF ++ drop (2 * width) old = rw e at c.filled in
      record {
        tree = rw whole cleared_tree;
        entries_are = ap (entries_in width) whole ∙ ap entries cleared_slots ∙ no_entries width;
        past = rw whole (drop_at (replicate (2 * width) FFFF) (drop (2 * width) old) (2 * width) (length-replicate (2 * width) FFFF));
      }
