-- The conditions 21 to 25 in records (`Conditions`): a plan gives each record a point. A tree says which records are nodes and which are ends of an edge
-- (`Checked`). Any plan that gives the nodes of a tree the points of its drawing, wherever it is shifted to, passes (`shifted_checked`).
use mathlib.Core.Path.{◌≡◌, refl, ap, sym, subst, subst₂, ◌∙◌}
use mathlib.Core.Logic.{◌⊎◌, ⊎_map, ◌≢◌}
use Prim.Native.Nat.{ℕ, ◌*◌, ◌<◌}
use Rattle.segment.specs.declared.Point.{Point}
use Rattle.segment.specs.Segment.{On, Share, Is, Lies}
use Rattle.segment.proofs.Weights.{weights}
use Rattle.table.specs.Table.{Side, left, right}
use Rattle.table.specs.Tree.{Tree, node}
use Rattle.layout.specs.Layout.{Layout, blank, placed, shift}
use Rattle.layout.specs.Drawing.{draw}
use Rattle.layout.proofs.Clean.{HasRoot, a_root, root, edge, below, Node, Edge, top, point, record_of, parent, child, side, Ends, Before, Clean}
use Rattle.layout.proofs.Points.{PointOf, point_on}
use Rattle.layout.proofs.Meet.{along_node}
use Rattle.layout.proofs.Rows.{shape, shape_shift}
use Rattle.layout.proofs.Theorem.{promise, clean_shifted}

-- The record k is a node of the tree.
pub data IsNode (k : ℕ) : Tree → Type 0 where
  node_here : {a b : Tree} → IsNode k (node k a b)
  node_left : {i : ℕ} {a b : Tree} → IsNode k a → IsNode k (node i a b)
  node_right : {i : ℕ} {a b : Tree} → IsNode k b → IsNode k (node i a b)

-- The record c is its root.
pub data Root (c : ℕ) : Tree → Type 0 where
  root_here : {a b : Tree} → Root c (node c a b)

-- The record c is the child of the record k on the side s.
pub data Child (k c : ℕ) : Side → Tree → Type 0 where
  left_child : {a b : Tree} → Root c a → Child k c left (node k a b)
  right_child : {a b : Tree} → Root c b → Child k c right (node k a b)
  child_left : {i : ℕ} {s : Side} {a b : Tree} → Child k c s a → Child k c s (node i a b)
  child_right : {i : ℕ} {s : Side} {a b : Tree} → Child k c s b → Child k c s (node i a b)

-- The conditions where the nodes are the records N, and the edges are from k to c on the side s, E k c s.
pub record Conditions (N : ℕ → Type 0) (E : ℕ → ℕ → Side → Type 0) (plan : ℕ → Point) : Type 0 where
  -- 21
  pub distinct : (k m : ℕ) → N k → N m → k ≢ m → plan k ≢ plan m
  -- more than 22 asks: never level
  pub lower : (k c : ℕ) (s : Side) → E k c s → (plan k).row < (plan c).row
  -- 23 and 25
  pub planar : (k c m d : ℕ) (s u : Side) → E k c s → E m d u → ¬ ((k ≡ m) × (c ≡ d)) →
      (h : Share (plan k) (plan c) (plan m) (plan d)) → (b : ℕ) × ((b ≡ k) ⊎ (b ≡ c)) × ((b ≡ m) ⊎ (b ≡ d)) × Is (plan b) h.q h.x h.y
  pub clear : (b k c : ℕ) (s : Side) → N b → E k c s → Lies (plan b) (plan k) (plan c) → (b ≡ k) ⊎ (b ≡ c)
  -- 24
  pub ordered : (k a b : ℕ) → E k a left → E k b right → Before (plan k) (plan a) (plan b)

abbrev pub Checked : Tree → (ℕ → Point) → Type 0
Checked t plan = Conditions (λ k. IsNode k t) (λ k c s. Child k c s t) plan

-- The plan gives each node its point.
abbrev pub Agrees : (ℕ → Point) → Layout → Type 0
Agrees plan L = (n : Node L) → plan (record_of n) ≡ point n

-- ---- the nodes and edges of a layout, by their records

record AsNode (k : ℕ) (L : Layout) : Type 0 where
  n : Node L
  is : record_of n ≡ k

record AsEdge (k c : ℕ) (s : Side) (L : Layout) : Type 0 where
  l : Edge L
  from : record_of (parent l) ≡ k
  to : record_of (child l) ≡ c
  on : side l ≡ s

as_node : (k : ℕ) (L : Layout) → IsNode k (shape L) → AsNode k L
unfolding shape
as_node k blank h = elim h [ ]
as_node k (placed i P a b) node_here = record { n = root; is = refl }
as_node k (placed i P a b) (node_left h) = let z = as_node k a h in record { n = below left z.n; is = z.is }
as_node k (placed i P a b) (node_right h) = let z = as_node k b h in record { n = below right z.n; is = z.is }

as_root : (c : ℕ) (L : Layout) → Root c (shape L) → (h : HasRoot L) × (record_of (top h) ≡ c)
unfolding shape
as_root c blank h = elim h [ ]
as_root c (placed k P a b) root_here = (a_root, refl)

as_edge : (k c : ℕ) (s : Side) (L : Layout) → Child k c s (shape L) → AsEdge k c s L
unfolding shape
as_edge k c s blank h = elim h [ ]
as_edge k c s (placed i P a b) (left_child h) = let z = as_root c a h in record { l = edge left z.0; from = refl; to = z.1; on = refl }
as_edge k c s (placed i P a b) (right_child h) = let z = as_root c b h in record { l = edge right z.0; from = refl; to = z.1; on = refl }
as_edge k c s (placed i P a b) (child_left h) = let z = as_edge k c s a h in record { l = below left z.l; from = z.from; to = z.to; on = z.on }
as_edge k c s (placed i P a b) (child_right h) = let z = as_edge k c s b h in record { l = below right z.l; from = z.from; to = z.to; on = z.on }

-- ---- from the layout to the plan

module _ (plan : ℕ → Point) (L : Layout) (fit : Agrees plan L) where
  there : {k : ℕ} (n : Node L) → record_of n ≡ k → plan k ≡ point n
  there n e = subst (λ (k : ℕ). plan k ≡ point n) e (fit n)

  ends : {k c : ℕ} {s : Side} (e : AsEdge k c s L) (n : Node L) → Ends n e.l → (record_of n ≡ k) ⊎ (record_of n ≡ c)
  ends e n h = ⊎_map (λ i. ap record_of i ∙ e.from) (λ i. ap record_of i ∙ e.to) h

  along : {k c : ℕ} {s : Side} (e : AsEdge k c s L) {q x y : ℕ} → On (plan k) (plan c) q x y → On (point (parent e.l)) (point (child e.l)) q x y
  along e {q} {x} {y} o = subst₂ (λ (P Q : Point). On P Q q x y) (there (parent e.l) e.from) (there (child e.l) e.to) o

  -- a node and the points of an edge are points of the layout
  pub node_shown : (k q : ℕ) → IsNode k (shape L) → PointOf q (q * (plan k).column) (q * (plan k).row) L
  node_shown k q h = let a = as_node k L h in rw (there a.n a.is) (point_on a.n (along_node a.n q))

  pub edge_shown : (k c : ℕ) (s : Side) {q x y : ℕ} → Child k c s (shape L) → On (plan k) (plan c) q x y → PointOf q x y L
  edge_shown k c s h o = let e = as_edge k c s L h in point_on e.l (weights (along e o))

  module _ (z : Clean L) where
    -- a record names one node
    unique : (n m : Node L) → record_of n ≡ record_of m → n ≡ m
    unique n m e = z.distinct n m (sym (fit n) ∙ there m (sym e))

    clean_checked : Checked (shape L) plan
    clean_checked = record {
      distinct = λ k m h i d e.
          let a = as_node k L h in
          let b = as_node m L i in
          d (sym a.is ∙ (ap record_of (z.distinct a.n b.n (sym (there a.n a.is) ∙ (e ∙ there b.n b.is))) ∙ b.is));
      lower = λ k c s h. let e = as_edge k c s L h in rw (there (parent e.l) e.from, there (child e.l) e.to) (z.lower e.l);
      planar = λ k c m d s u h i ne o.
          let e = as_edge k c s L h in
          let f = as_edge m d u L i in
          let w = z.planar e.l f.l
          (λ j. ne (sym e.from ∙ (ap (λ l. record_of (parent l)) j ∙ f.from), sym e.to ∙ (ap (λ l. record_of (child l)) j ∙ f.to)))
          (record { q = o.q; x = o.x; y = o.y; q≥1 = o.q≥1; on_PQ = along e o.on_PQ; on_RS = along f o.on_RS }) in
          (record_of w.0, ends e w.0 w.1, ends f w.0 w.2, rw fit w.3);
      clear = λ b k c s h i o.
          let n = as_node b L h in
          let e = as_edge k c s L i in
          rw (← n.is) (ends e n.n (z.clear n.n e.l (rw (there n.n n.is, there (parent e.l) e.from, there (child e.l) e.to) at o)));
      ordered = λ k a b h i.
          let e = as_edge k a left L h in
          let f = as_edge k b right L i in
          rw (there (parent e.l) e.from, there (child e.l) e.to, there (child f.l) f.to)
          (z.ordered e.l f.l (unique _ _ (e.from ∙ sym f.from)) e.on f.on);
    }

-- The drawing with its left edge at column e and its top row at row r.
pub shape_drawn : (e r : ℕ) (t : Tree) → shape (shift e r (draw t)) ≡ t
shape_drawn e r t = shape_shift e r (draw t) ∙ (promise t).same

pub shifted_checked : (e r : ℕ) (t : Tree) (plan : ℕ → Point) → Agrees plan (shift e r (draw t)) → Checked t plan
shifted_checked e r t plan fit = subst (λ (s : Tree). Checked s plan) (shape_drawn e r t) (clean_checked plan (shift e r (draw t)) fit (clean_shifted e r t))
