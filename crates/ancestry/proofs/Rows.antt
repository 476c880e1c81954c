-- Laws of the sparse table: rows with blocks shorter than a row have room, each is made of the one before, and two blocks cover a span.
use Prim.Native.Nat.{ℕ, zero, suc, ◌+◌, ◌-◌, ◌*◌, ◌/◌, ◌%◌, ◌^◌, ◌≤◌, ◌<◌, min}
use mathlib.Core.Path.{◌≡◌, refl, sym, ap, ◌∙◌}
use mathlib.Core.List.{List}
use native.Mathlib.Nat.{pow-suc, mul-le-mul_right, suc-mul, zero-mul, one-mul}
use native.Mathlib.Decide.{ℕ_discrete, dec_le}
use native.Mathlib.Omega.{arith}
use lib.ListN.{length, get_or, set, replicate, length-set, get_or-replicate}
use lib.Seq.{get_or-set_same, get_or-set_other}
use lib.Dec.{lit<}
use lib.Pow.{pow_mono, shl_exact}
use lib.Count.{count_leading_zeros, leading_length}
use Rattle.std.proofs.lemmas.Grind.{common_steps}
use Rattle.model.specs.Tree.{FFFF, first_leaf, last_leaf}
use Rattle.laws.specs.Least.{least_of, least_none, least_one, least_more, least_append, least_cover, least_cap}
use Rattle.tree_laws.specs.Ancestors.{ancestor_root}
use Rattle.tree_laws.specs.Spans.{first_le_last, nested}
use Rattle.settle.specs.declared.SettledTree.{SettledTree}
use Rattle.settle.specs.Spanned.{Spanned}
use Rattle.ancestry.specs.SparseTable.{parent_from, parent_below, smallest_parent, stride_of, block, Roomy, Right, RowsTo, RowSet, Minima, Searchable}
use Rattle.ancestry.specs.Room.{stride_small}

-- ---- blocks

block_one : (e : ℕ) → block (suc e) ≡ 2 ^ e
block_one e = let p : 2 ^ suc e ≡ 2 ^ e * 2 = pow-suc 2 e in omega arith

-- each is twice as long as the one before
pub block_next : (m : ℕ) → 1 ≤ m → block (suc m) ≡ block m + block m
block_next zero h = absurd (omega arith)
block_next (suc e) h = let p : 2 ^ suc e ≡ 2 ^ e * 2 = pow-suc 2 e in omega (arith, block_one e, block_one (suc e))

pub block_mono : (m n : ℕ) → m ≤ n → block m ≤ block n
block_mono m n h = let p : 2 ^ m ≤ 2 ^ n = pow_mono h in omega arith

-- ---- room

module _ (ps cells : List ℕ) (r : Roomy ps cells) where
  -- a block shorter than a row is one of a row that there is room for
  level_of : (n : ℕ) → block n < stride_of ps → n ≤ r.levels
  level_of n short = elim (dec_le n r.levels) [
    | yes h ↦ h
    | no h ↦ absurd (omega (arith, block_mono (suc r.levels) n (omega arith), block_one r.levels, r.wide))
  ]

  -- the row ends inside
  pub row_room : (n : ℕ) → block n < stride_of ps → n * stride_of ps + stride_of ps ≤ length cells
  row_room n short =
      let b : suc n * stride_of ps ≤ suc r.levels * stride_of ps = mul-le-mul_right (stride_of ps) (omega (arith, level_of n short)) in
      omega (arith, b, suc-mul n (stride_of ps), r.room)

-- as many cells have as much room
pub roomy_same : (ps old new : List ℕ) → length new ≡ length old → Roomy ps old → Roomy ps new
roomy_same ps old new e r = record { levels = r.levels; wide = r.wide; room = omega (arith, r.room) }

-- ---- row 1: the parents of the layouts up to x are taken in

pub record ParentsTo (ps : List ℕ) (x : ℕ) (cells : List ℕ) : Type 0 where
  pub some : 1 ≤ x
  pub within : x ≤ length ps
  pub roomy : Roomy ps cells
  pub none : (k : ℕ) → k < stride_of ps → get_or cells k 0 ≡ FFFF
  pub parents : (k : ℕ) → k < stride_of ps → get_or cells (stride_of ps + k) 0 ≡ parent_below ps x k

module _ (ps : List ℕ) where
  -- the first leaf of a layout, as it is read, is a leaf of the tree
  pub leaf_read : (tree : SettledTree) → Spanned ps tree → (x leaf : ℕ) → x < length ps → leaf ≡ get_or tree.first_leaves x 0 → (leaf ≡ first_leaf ps x) × (leaf ≤ last_leaf ps 0)
  leaf_read tree s x leaf h e =
      let is : leaf ≡ first_leaf ps x = e ∙ s.first_at x h in
      (is, omega (arith, first_le_last ps s.tree x h, (nested ps s.tree h (ancestor_root ps s.tree x)).1))

  two_rows : (cells : List ℕ) → Roomy ps cells → stride_of ps + stride_of ps ≤ length cells
  two_rows cells r = omega (arith, row_room ps cells r 1 (omega arith), one-mul (stride_of ps))

  pub parent_inside : (cells : List ℕ) → Roomy ps cells → (k : ℕ) → k ≤ last_leaf ps 0 → stride_of ps + k < length cells
  parent_inside cells r k h = omega (arith, two_rows cells r)

  -- so it has a cell in row 1
  pub leaf_inside : (tree : SettledTree) → Spanned ps tree → (cells : List ℕ) → Roomy ps cells → (x leaf : ℕ) → x < length ps → leaf ≡ get_or tree.first_leaves x 0 → stride_of ps + leaf < length cells
  leaf_inside tree s cells r x leaf h e = parent_inside cells r leaf (leaf_read tree s x leaf h e).1

  pub parents_none : (cells : List ℕ) → 0 < length ps → Roomy ps cells → cells ≡ replicate (length cells) FFFF → ParentsTo ps 1 cells
  parents_none cells nonempty r e =
      record {
        some = omega arith;
        within = omega arith;
        roomy = r;
        none = λ k h. ap (λ (l : List ℕ). get_or l k 0) e ∙ get_or-replicate (length cells) k FFFF 0 (omega (arith, two_rows cells r));
        parents = λ k h. ap (λ (l : List ℕ). get_or l (stride_of ps + k) 0) e ∙ get_or-replicate (length cells) (stride_of ps + k) FFFF 0 (omega (arith, two_rows cells r)) ∙ sym (least_none (parent_from ps k) 1);
      }

  -- one layout more: at its first leaf its parent is taken in, at the others there is none
  parent_more : (x k : ℕ) → 1 ≤ x → parent_below ps (x + 1) k ≡ min (parent_below ps x k) (parent_from ps k x)
  parent_more x k h =
      let one : x + 1 - 1 ≡ (x - 1) + 1 = omega arith in
      let at : 1 + (x - 1) ≡ x = omega arith in
      rw (one, least_more (parent_from ps k) 1 (x - 1), at)

  pub parents_more : (tree : SettledTree) → Spanned ps tree → (x leaf : ℕ) (cells : List ℕ) (v : ℕ) → x < length ps → leaf ≡ get_or tree.first_leaves x 0 → v ≡ min (get_or cells (stride_of ps + leaf) 0) (get_or ps x 0) → ParentsTo ps x cells → ParentsTo ps (x + 1) (set cells (stride_of ps + leaf) v)
  unfolding parent_from
  parents_more tree s x leaf cells v hx read is p =
      let e : leaf ≡ first_leaf ps x = (leaf_read tree s x leaf hx read).0 in
      record {
        some = omega arith;
        within = omega arith;
        roomy = roomy_same ps cells (set cells (stride_of ps + leaf) v) (length-set {A = ℕ} cells (stride_of ps + leaf) v) p.roomy;
        none = λ k h. get_or-set_other cells (stride_of ps + leaf) k v 0 (omega arith) ∙ p.none k h;
        parents = λ k h. grind (arith, common_steps, p.parents k h, parent_more x k p.some, least_cap (parent_from ps k) 1 (x - 1), leaf_inside tree s cells p.roomy x leaf hx read);
      }

  pub parents_all : (x : ℕ) (cells : List ℕ) → length ps ≤ x → ParentsTo ps x cells → RowsTo ps 1 cells
  unfolding smallest_parent
  parents_all x cells end p = record { roomy = p.roomy; row = rows }
    where
      whole : x ≡ length ps
      whole = omega (arith, p.within)

      rows : (n k : ℕ) → n ≤ 1 → k + block n < stride_of ps → Right ps cells n k
      rows zero k h short = let z : 0 * stride_of ps + k ≡ k = omega (arith, zero-mul (stride_of ps)) in rw z (p.none k (omega arith) ∙ sym (least_none (smallest_parent ps) k))
      rows (suc zero) k h short =
          let o : 1 * stride_of ps + k ≡ stride_of ps + k = omega (arith, one-mul (stride_of ps)) in
          let one : least_of (smallest_parent ps) k 1 ≡ parent_below ps (length ps) k = least_one (smallest_parent ps) k ∙ omega (arith, least_cap (parent_from ps k) 1 (length ps - 1)) in
          rw o (p.parents k (omega arith) ∙ rw whole (sym one))
      rows (suc (suc n)) k h short = absurd (omega arith)

-- ---- a row after the other

pub row_none : (at stride half : ℕ) (old : List ℕ) → RowSet at stride half 0 old old
row_none at stride half old = record { kept = refl; before = λ i h. refl; set_to = λ k h. absurd (omega arith) }

pub row_more : (at stride half k v : ℕ) (old new : List ℕ) → at + stride + stride ≤ length old → k + (half + half) < stride → v ≡ min (get_or new (at + k) 0) (get_or new (at + k + half) 0) → RowSet at stride half k old new → RowSet at stride half (k + 1) old (set new (at + stride + k) v)
row_more at stride half k v old new room short is r =
    record {
      kept = length-set {A = ℕ} new (at + stride + k) v ∙ r.kept;
      before = λ i h. get_or-set_other new (at + stride + k) i v 0 (omega arith) ∙ r.before i h;
      set_to = λ j h. elim (ℕ_discrete j k) [
        | yes same ↦ rw (same, get_or-set_same new (at + stride + k) v 0 (omega (arith, r.kept)), is, r.before (at + k) (omega arith), r.before (at + k + half) (omega arith)) refl
        | no other ↦ get_or-set_other new (at + stride + k) (at + stride + j) v 0 (omega arith) ∙ r.set_to j (omega arith)
      ];
    }

pub row_all : (at stride half k : ℕ) (old new : List ℕ) → stride ≤ k + (half + half) → RowSet at stride half k old new → RowSet at stride half (stride - (half + half)) old new
row_all at stride half k old new end r = record { kept = r.kept; before = r.before; set_to = λ j h. r.set_to j (omega arith) }

-- the rows so far, the last of which begins at `at`, with blocks as long as `half`
pub record Rows (ps : List ℕ) (at half m : ℕ) (cells : List ℕ) : Type 0 where
  pub rows : RowsTo ps m cells
  pub some : 1 ≤ m
  pub at_is : at ≡ m * stride_of ps
  pub half_is : half ≡ block m

module _ (ps : List ℕ) (at half m : ℕ) (cells : List ℕ) (r : Rows ps at half m cells) where
  -- there is room for one more with blocks shorter than a row
  pub next_room : half + half < stride_of ps → at + stride_of ps + stride_of ps ≤ length cells
  next_room short = omega (arith, r.at_is, suc-mul m (stride_of ps), row_room ps cells r.rows.roomy (suc m) (omega (arith, block_next m r.some, r.half_is)))

  next_row : (new : List ℕ) → RowSet at (stride_of ps) half (stride_of ps - (half + half)) cells new → (n k : ℕ) → n ≤ suc m → k + block n < stride_of ps → Right ps new n k
  next_row new s n k h short = elim (ℕ_discrete n (suc m)) [
    | yes last ↦
        let w : block (suc m) ≡ half + half = omega (arith, block_next m r.some, r.half_is) in
        let short' : k + block (suc m) < stride_of ps = rw last at short in
        let here : suc m * stride_of ps + k ≡ at + stride_of ps + k = omega (arith, suc-mul m (stride_of ps), r.at_is) in
        let left : get_or cells (at + k) 0 ≡ least_of (smallest_parent ps) k half = rw (r.at_is, r.half_is) (r.rows.row m k (omega arith) (omega (arith, r.half_is))) in
        let shifted : at + k + half ≡ at + (k + half) = omega arith in
        let right : get_or cells (at + k + half) 0 ≡ least_of (smallest_parent ps) (k + half) half = rw shifted (rw (r.at_is, r.half_is) (r.rows.row m (k + block m) (omega arith) (omega (arith, r.half_is)))) in
        rw last (rw (here, w) (s.set_to k (omega arith) ∙ rw (left, right) (sym (least_append (smallest_parent ps) k half half))))
    | no former ↦
        let b : n * stride_of ps ≤ m * stride_of ps = mul-le-mul_right (stride_of ps) (omega arith) in
        s.before (n * stride_of ps + k) (omega (arith, r.at_is)) ∙ r.rows.row n k (omega arith) short
  ]

  pub rows_more : (new : List ℕ) → half + half < stride_of ps → RowSet at (stride_of ps) half (stride_of ps - (half + half)) cells new → Rows ps (at + stride_of ps) (half * 2) (suc m) new
  rows_more new short s =
      record {
        rows = record { roomy = roomy_same ps cells new s.kept r.rows.roomy; row = next_row new s };
        some = omega arith;
        at_is = omega (arith, suc-mul m (stride_of ps), r.at_is);
        half_is = omega (arith, block_next m r.some, r.half_is);
      }

  -- longer blocks than a row has cells are in no row
  pub rows_all : stride_of ps ≤ half + half → Minima ps cells
  rows_all end = record { roomy = r.rows.roomy; row = λ n k short. r.rows.row n k (at_most n k short) short }
    where
      at_most : (n k : ℕ) → k + block n < stride_of ps → n ≤ m
      at_most n k short = elim (dec_le n m) [
        | yes h ↦ h
        | no h ↦ absurd (omega (arith, block_mono (suc m) n (omega arith), block_next m r.some, r.half_is))
      ]

pub rows_first : (ps cells : List ℕ) → RowsTo ps 1 cells → Rows ps (stride_of ps) 1 1 cells
rows_first ps cells r = record { rows = r; some = omega arith; at_is = sym (one-mul (stride_of ps)); half_is = refl }

-- ---- two blocks cover a span

-- as many bits as a number has
bits_cover : (n : ℕ) → n < 2 ^ 64 → (n < 2 ^ (64 - count_leading_zeros 64 n)) × (2 ^ (64 - count_leading_zeros 64 n) ≤ 2 * n + 1)
bits_cover n h =
    let l = leading_length 64 n h in
    let e : 64 - count_leading_zeros 64 n ≡ l.0 = omega (arith, l.1) in
    rw e (l.2, l.3)

module _ (ps : List ℕ) (tree : SettledTree) (cells : List ℕ) (q : Searchable ps tree cells) (from to : ℕ) (order : from ≤ to) (inside : to < stride_of ps) where
  abbrev bits : ℕ
  bits = 64 - count_leading_zeros 64 (to - from)

  covers : (to - from < 2 ^ bits) × (2 ^ bits ≤ 2 * (to - from) + 1)
  covers = bits_cover (to - from) (omega (arith, stride_small ps q.spanned.tree))

  pub bits_small : bits < 64
  bits_small = elim (dec_le 64 bits) [
    | yes h ↦ let p : 2 ^ 64 ≤ 2 ^ bits = pow_mono h in absurd (omega (arith, covers.1, stride_small ps q.spanned.tree))
    | no h ↦ omega arith
  ]

  -- the machine's shift
  pub block_is : 1 * 2 ^ bits % 2 ^ 64 / 2 ≡ block bits
  block_is = ap (λ (n : ℕ). n / 2) (shl_exact {a = 1} 1 bits 64 (lit< tt) (omega (arith, bits_small)) ∙ one-mul (2 ^ bits))

  pub block_fits : block bits ≤ to - from
  block_fits = omega (arith, covers.1)

  pub row_fits : bits * stride_of ps + stride_of ps ≤ length cells
  row_fits = row_room ps cells q.rows.roomy bits (omega (arith, block_fits))

  pub two_blocks : min (get_or cells (bits * stride_of ps + from) 0) (get_or cells (bits * stride_of ps + to - block bits) 0) ≡ least_of (smallest_parent ps) from (to - from)
  two_blocks =
      let there : bits * stride_of ps + to - block bits ≡ bits * stride_of ps + (to - block bits) = omega (arith, block_fits) in
      let end : from + (to - from) - block bits ≡ to - block bits = omega arith in
      rw (there, q.rows.row bits from (omega (arith, block_fits)), q.rows.row bits (to - block bits) (omega (arith, block_fits)), ← end) (least_cover (smallest_parent ps) from (to - from) (block bits) block_fits (omega (arith, covers.0)))
