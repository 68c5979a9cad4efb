-- Several trees, one under the other: what the check asks of all their nodes and edges together (`trees_checked`), how wide and how high they are
-- (`trees_narrow`, `trees_short`), and that every row holds a node (`rows_held`). Two trees share no row, so that what is at one row, or shares a point, is in
-- one tree (`one_row`, `same_tree`). Rests on the theorem on one drawing, on Records and on Motions.
use mathlib.Core.Path.{◌≡◌, ap, sym, subst}
use mathlib.Core.List.{List, [], ◌∷◌}
use Prim.Native.Nat.{ℕ, suc, ◌+◌, ◌*◌, ◌-◌, ◌^◌, ◌≤◌, ◌<◌, max}
use native.Mathlib.Decide.{dec_lt}
use native.Mathlib.Omega.{arith}
use lib.ListN.{length}
use Rattle.segment.specs.declared.Point.{Point}
use Rattle.segment.specs.Segment.{at, On}
use Rattle.segment.proofs.Weights.{at_start}
use Rattle.table.specs.Lists.{count}
use Rattle.table.specs.Table.{Side, left, right}
use Rattle.table.specs.Tree.{Tree, nodes}
use Rattle.table.specs.Trees.{nodes_of}
use Rattle.table.proofs.Chain.{length_trees}
use Rattle.layout.specs.Layout.{Layout, width, height, shift, RootAt}
use Rattle.layout.specs.Drawing.{draw}
use Rattle.layout.specs.Trees.{draw_from, draw_trees, width_of, height_of}
use Rattle.layout.proofs.Points.{PointOf}
use Rattle.layout.proofs.Motions.{shift_within, width_home, height_below, shift_none, root_shift}
use Rattle.layout.proofs.Rows.{shape, HoldsRow, row_shift}
use Rattle.layout.proofs.Theorem.{promise}
use Rattle.layout.proofs.Records.{IsNode, Child, Conditions, Checked, Agrees, node_shown, edge_shown, shape_drawn, shifted_checked}

-- ---- one of them

-- The root is at column 0, in the row from which the tree is drawn.
pub rooted_below : (r : ℕ) (a : Tree) → RootAt (at 0 r) (shift 0 r (draw a))
rooted_below r a = root_shift 0 r (draw a) (promise a).corner

-- Its records are those of the tree.
pub count_below : (k r : ℕ) (a : Tree) → count k (nodes (shape (shift 0 r (draw a)))) ≡ count k (nodes a)
count_below k r a = ap (λ (t : Tree). count k (nodes t)) (shape_drawn 0 r a)

-- A single tree is drawn as it is.
pub one_tree : (a : Tree) → draw_trees (a ∷ []) ≡ draw a ∷ []
unfolding draw_from
one_tree a = ap (λ (L : Layout). L ∷ []) (shift_none (draw a))

pub width_of_one : (L : Layout) → width L ≡ width_of (L ∷ [])
unfolding width_of
width_of_one L = omega arith

pub height_of_one : (L : Layout) → height L ≡ height_of (L ∷ [])
unfolding height_of
height_of_one L = omega arith

-- ---- width and height

pub height_first : (r : ℕ) (a : Tree) (ts : List Tree) →
    max r (height_of (draw_from r (a ∷ ts))) ≡ max (r + height (draw a)) (height_of (draw_from (r + height (draw a)) ts))
unfolding draw_from height_of
height_first r a ts = omega (arith, height_below 0 r (draw a))

pub width_first : (r : ℕ) (a : Tree) (ts : List Tree) → width_of (draw_from r (a ∷ ts)) ≡ max (width (draw a)) (width_of (draw_from (r + height (draw a)) ts))
unfolding draw_from width_of
width_first r a ts = omega (arith, width_home r (draw a))

pub trees_narrow : (ts : List Tree) (r k : ℕ) → length (nodes_of ts) < 2 ^ suc k → width_of (draw_from r ts) ≤ 3 * k + 1
unfolding draw_from width_of
trees_narrow [] r k h = omega arith
trees_narrow (a ∷ ts) r k h =
    let l = length_trees a ts in
    omega (arith, width_home r (draw a), (promise a).narrow k (omega arith), trees_narrow ts (r + height (draw a)) k (omega arith))

pub trees_short : (ts : List Tree) (r : ℕ) → height_of (draw_from r ts) ≤ r + length (nodes_of ts)
unfolding draw_from height_of
trees_short [] r = omega arith
trees_short (a ∷ ts) r = omega (arith, length_trees a ts, height_below 0 r (draw a), (promise a).short, trees_short ts (r + height (draw a)))

-- ---- one of several

-- P holds of one of several trees, or of one of their drawings.
pub data Among {A : Type 0} (P : A → Type 0) : List A → Type 0 where
  here : {a : A} {ts : List A} → P a → Among P (a ∷ ts)
  there : {a : A} {ts : List A} → Among P ts → Among P (a ∷ ts)

-- The plan gives each node of the drawings its point.
abbrev pub AgreesAll : (ℕ → Point) → List Layout → Type 0
AgreesAll plan [] = Unit {0}
AgreesAll plan (L ∷ Ls) = Agrees plan L × AgreesAll plan Ls

-- What P says of a tree is at row y / q in each of its drawings.
pub record AtRow (plan : ℕ → Point) (P : Tree → Type 0) (q y : ℕ) : Type 0 where
  pub within : (r : ℕ) (a : Tree) → Agrees plan (shift 0 r (draw a)) → P a → (q * r ≤ y) × (y < q * (r + height (draw a)))

-- P and Q hold of the same one of the trees, which is drawn from row top on.
pub record InOneTree (plan : ℕ → Point) (P Q : Tree → Type 0) : Type 0 where
  pub tree : Tree
  pub top : ℕ
  pub fit : Agrees plan (shift 0 top (draw tree))
  pub one : P tree
  pub other : Q tree

-- Things at one row are in one tree: another tree ends above it or begins below it.
module _ (plan : ℕ → Point) where
  from_row : {P : Tree → Type 0} {q y : ℕ} → AtRow plan P q y → (ts : List Tree) (r : ℕ) → AgreesAll plan (draw_from r ts) → Among P ts → q * r ≤ y
  unfolding draw_from
  from_row z [] r fit h = elim h [ ]
  from_row z (a ∷ ts) r fit (here h) = (z.within r a fit.0 h).0
  from_row z (a ∷ ts) r fit (there h) = omega (arith, from_row z ts (r + height (draw a)) fit.1 h)

  pub one_row : {P Q : Tree → Type 0} {q y : ℕ} → AtRow plan P q y → AtRow plan Q q y → (ts : List Tree) (r : ℕ) → AgreesAll plan (draw_from r ts) → Among P ts →
      Among Q ts → InOneTree plan P Q
  unfolding draw_from
  one_row z w [] r fit h _ = elim h [ ]
  one_row z w (a ∷ ts) r fit (here h) (here i) = record { tree = a; top = r; fit = fit.0; one = h; other = i }
  one_row z w (a ∷ ts) r fit (here h) (there i) = absurd (omega (arith, (z.within r a fit.0 h).1, from_row w ts (r + height (draw a)) fit.1 i))
  one_row z w (a ∷ ts) r fit (there h) (here i) = absurd (omega (arith, (w.within r a fit.0 i).1, from_row z ts (r + height (draw a)) fit.1 h))
  one_row z w (a ∷ ts) r fit (there h) (there i) = one_row z w ts (r + height (draw a)) fit.1 h i

-- ---- 21 to 25

abbrev pub CheckedAll : List Tree → (ℕ → Point) → Type 0
CheckedAll ts plan = Conditions (λ k. Among (IsNode k) ts) (λ k c s. Among (Child k c s) ts) plan

module _ (plan : ℕ → Point) where
  -- What P says of a tree has the point (x, y) / q in each of its drawings.
  record PointIn (P : Tree → Type 0) (q x y : ℕ) : Type 0 where
    shown : (L : Layout) → Agrees plan L → P (shape L) → PointOf q x y L

  node_in : (k q : ℕ) → PointIn (IsNode k) q (q * (plan k).column) (q * (plan k).row)
  node_in k q = record { shown = λ L fit. node_shown plan L fit k q }

  edge_in : (k c : ℕ) (s : Side) {q x y : ℕ} → On (plan k) (plan c) q x y → PointIn (Child k c s) q x y
  edge_in k c s o = record { shown = λ L fit h. edge_shown plan L fit k c s h o }

  parent_in : (k c : ℕ) (s : Side) → PointIn (Child k c s) 1 (1 * (plan k).column) (1 * (plan k).row)
  parent_in k c s = edge_in k c s (at_start (plan k) (plan c) 1)

  at_row : {P : Tree → Type 0} {q x y : ℕ} → 1 ≤ q → PointIn P q x y → AtRow plan P q y
  at_row {P} one z = record {
    within = λ r a fit h.
        let w = shift_within 0 r (draw a) (z.shown (shift 0 r (draw a)) fit (subst P (sym (shape_drawn 0 r a)) h)) in
        (w.from_row, omega (arith, w.to_row));
  }

  -- Things that share a point are in one tree, which is checked.
  same_tree : {P Q : Tree → Type 0} {q x y : ℕ} → 1 ≤ q → PointIn P q x y → PointIn Q q x y → (ts : List Tree) (r : ℕ) → AgreesAll plan (draw_from r ts) →
      Among P ts → Among Q ts → InOneTree plan P Q
  same_tree one z w = one_row plan (at_row one z) (at_row one w)

  checked : {P Q : Tree → Type 0} (t : InOneTree plan P Q) → Checked t.tree plan
  checked t = shifted_checked 0 t.top t.tree plan t.fit

pub trees_checked : (ts : List Tree) (r : ℕ) (plan : ℕ → Point) → AgreesAll plan (draw_from r ts) → CheckedAll ts plan
trees_checked ts r plan fit = record {
  distinct = λ k m h i d e.
      let t = same_tree plan (omega arith) (node_in plan k 1) (rw e (node_in plan m 1)) ts r fit h i in
      (checked plan t).distinct k m t.one t.other d e;
  lower = λ k c s h.
      let t = same_tree plan (omega arith) (parent_in plan k c s) (parent_in plan k c s) ts r fit h h in
      (checked plan t).lower k c s t.one;
  planar = λ k c m d s u h i ne o.
      let t = same_tree plan o.q≥1 (edge_in plan k c s o.on_PQ) (edge_in plan m d u o.on_RS) ts r fit h i in
      (checked plan t).planar k c m d s u t.one t.other ne o;
  clear = λ b k c s h i o.
      let t = same_tree plan o.q≥1 (node_in plan b o.q) (edge_in plan k c s o.on) ts r fit h i in
      (checked plan t).clear b k c s t.one t.other o;
  ordered = λ k a b h i.
      let t = same_tree plan (omega arith) (parent_in plan k a left) (parent_in plan k b right) ts r fit h i in
      (checked plan t).ordered k a b t.one t.other;
}

-- ---- rows

-- From the first row to the last each row holds a node of one of the drawings.
pub rows_held : (ts : List Tree) (r j : ℕ) → r ≤ j → j < height_of (draw_from r ts) → Among (λ L. HoldsRow L j) (draw_from r ts)
unfolding draw_from height_of
rows_held [] r j h i = absurd (omega arith)
rows_held (a ∷ ts) r j h i = go (dec_lt j (r + height (draw a))) (rows_held ts (r + height (draw a)) j)
  where
    go : Dec (j < r + height (draw a)) →
        (r + height (draw a) ≤ j → j < height_of (draw_from (r + height (draw a)) ts) → Among (λ L. HoldsRow L j) (draw_from (r + height (draw a)) ts)) →
        Among (λ L. HoldsRow L j) (draw_from r (a ∷ ts))
    go (yes l) later =
        let (n, e) = (promise a).filled (j - r) (omega arith) in
        let (m, f) = row_shift 0 r n in
        here (m, omega arith)
    go (no l) later = there (later (omega arith) (omega (arith, height_below 0 r (draw a))))
