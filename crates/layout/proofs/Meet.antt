-- An untangled drawing is clean (`untangled_clean`), since two pieces of it that share a point are one, or the point is a node at which both end (`meet`).
use mathlib.Core.Path.{◌≡◌, refl, ap, sym, subst, ◌∙◌}
use mathlib.Core.Logic.{inl, inr, ⊎_map, ◌≢◌}
use Prim.Native.Nat.{ℕ, ◌+◌, ◌*◌, ◌≤◌, ◌<◌}
use native.Mathlib.Nat.{mul-le-mul_left}
use native.Mathlib.Omega.{arith}
use Rattle.segment.specs.declared.Point.{Point}
use Rattle.segment.specs.Segment.{Is}
use Rattle.segment.proofs.Weights.{Weights, weights, weighed, at_start, at_end, at_point}
use Rattle.table.specs.Table.{Side, left, right}
use Rattle.layout.specs.Layout.{Layout, placed}
use Rattle.layout.proofs.Clean.{on_side, HasRoot, a_root, Kind, Piece, root, edge, below, Node, Edge, top, point, parent, child, side, Ends, Before}
use Rattle.layout.proofs.Clean.{Clean}
use Rattle.layout.proofs.Points.{falls, Along, point_on, EdgeTo, Lower, Order, Untangled, bare, fork, low, untangled, deep, low_top, under_top}

-- ---- pairs of pieces

-- Two edges from one node share only that node.
from_one : {P A B : Point} {q x y : ℕ} → Before P A B → Weights P A q x y → Weights P B q x y → Is P q x y
from_one {P} {A} {B} t m n = at_end n (omega (
  arith,
  mul-le-mul_left n.v t,
  ap (λ (i : ℕ). i * A.row) columns,
  ap (λ (i : ℕ). i * P.row) columns,
  ap (λ (i : ℕ). i * A.column) rows,
  ap (λ (i : ℕ). i * P.column) rows,
))
  where
    columns : m.v * A.column + n.v * P.column ≡ n.v * B.column + m.v * P.column
    columns = omega (arith, m.in_column, n.in_column, weighed m P.column, weighed n P.column)

    rows : m.v * A.row + n.v * P.row ≡ n.v * B.row + m.v * P.row
    rows = omega (arith, m.in_row, n.in_row, weighed m P.row, weighed n P.row)

before : (P : Point) {a b : Layout} → Order P a b → (h : HasRoot a) (i : HasRoot b) → Before P (point (top h)) (point (top i))
before P o a_root a_root = o

-- A piece that has the root's point ends there.
ends_root : {L : Layout} {c : Kind} {q x y : ℕ} → Untangled L → (h : HasRoot L) → 1 ≤ q → (p : Piece c L) → Along p q x y → Is (point (top h)) q x y →
    Ends (top h) p
ends_root c a_root one root m e = inl refl
ends_root c a_root one (edge s h) m e = inl refl
ends_root (fork {P} c d j o) a_root one (below s p) m e = absurd (omega (arith, e.in_row, deep (untangled c d s) P.row (low j s) (point_on p m)))

-- The edge to the root of a drawing, and a piece of the drawing, share only the root.
at_top : {P : Point} {L : Layout} {c : Kind} {q x y : ℕ} → Untangled L → Lower P.row L → (h : HasRoot L) → 1 ≤ q → Weights P (point (top h)) q x y →
    (p : Piece c L) → Along p q x y → Ends (top h) p × Is (point (top h)) q x y
at_top {P} {L} {q} {x} {y} c l h one m p n = (ends_root c h one p n e, e)
  where
    e : Is (point (top h)) q x y
    e = let f = falls (low_top l h) m in
        let u = under_top c h one (point_on p n) in record { in_column = u.only f.above; in_row = omega (arith, u.rows, f.above) }

one_top : {L : Layout} (h i : HasRoot L) → h ≡ i
one_top a_root a_root = refl

-- ---- any two pieces

-- One and the same piece.
pub data Alike (c : Kind) (L : Layout) (p : Piece c L) : (d : Kind) → Piece d L → Type 0 where
  alike : Alike c L p c p

-- The two pieces are one, or both end at a node n, which is at (x, y) / q.
data Meet {c d : Kind} {L : Layout} (p : Piece c L) (r : Piece d L) (q x y : ℕ) : Type 0 where
  same : Alike c L p d r → Meet p r q x y
  common : (n : Node L) → Ends n p → Ends n r → Is (point n) q x y → Meet p r q x y

swap : {c d : Kind} {L : Layout} {p : Piece c L} {r : Piece d L} {q x y : ℕ} → Meet p r q x y → Meet r p q x y
swap (same alike) = same alike
swap (common n e f i) = common n f e i

met_below : {k : ℕ} {P : Point} {a b : Layout} (s : Side) {c d : Kind} {p : Piece c (on_side s a b)} {r : Piece d (on_side s a b)} {q x y : ℕ} → Meet p r q x y →
    Meet (below {k = k} {P = P} {a = a} {b = b} s p) (below {k = k} {P = P} {a = a} {b = b} s r) q x y
met_below s (same alike) = same alike
met_below s (common n e f i) = common (below s n) (⊎_map (ap (below s)) (ap (below s)) e) (⊎_map (ap (below s)) (ap (below s)) f) i

-- The edge to the child on a side, and a piece of the subtree there.
edge_meets : {k : ℕ} {P : Point} {a b : Layout} {c : Kind} {q x y : ℕ} → Untangled (placed k P a b) →
    (s : Side) (h : HasRoot (on_side s a b)) (r : Piece c (on_side s a b)) →
    1 ≤ q → Weights P (point (top h)) q x y → Along r q x y → Meet (edge {k = k} {P = P} {a = a} {b = b} s h) (below {k = k} {P = P} {a = a} {b = b} s r) q x y
edge_meets (fork c d j o) s h r one m n =
    let z = at_top (untangled c d s) (low j s) h one m r n in
    common (below s (top h)) (inr refl) (⊎_map (ap (below s)) (ap (below s)) z.0) z.1

root_meets : {k : ℕ} {P : Point} {a b : Layout} {d : Kind} {q x y : ℕ} → Untangled (placed k P a b) → (r : Piece d (placed k P a b)) → 1 ≤ q →
    Weights P P q x y → Along r q x y →
    Meet (root {k = k} {P = P} {a = a} {b = b}) r q x y
root_meets c r one m n = common root (inl refl) (ends_root c a_root one r n (at_point m refl)) (at_point m refl)

edge_to : {P : Point} {L : Layout} {q x y : ℕ} (h : HasRoot L) → Weights P (point (top h)) q x y → EdgeTo P q x y L
edge_to h m = record { has = h; on = m }

meet : {L : Layout} {c d : Kind} {q x y : ℕ} → Untangled L → (p : Piece c L) (r : Piece d L) → 1 ≤ q → Along p q x y → Along r q x y → Meet p r q x y
meet c root r one m n = root_meets c r one m n
meet c (edge s h) root one m n = swap (root_meets c (edge s h) one n m)
meet c (edge left h) (edge left i) one m n = rw (one_top h i) (same alike)
meet (fork {P} c d j o) (edge left h) (edge right i) one m n = common root (inl refl) (inl refl) (from_one (before P o h i) m n)
meet (fork {P} c d j o) (edge right h) (edge left i) one m n = common root (inl refl) (inl refl) (from_one (before P o i h) n m)
meet c (edge right h) (edge right i) one m n = rw (one_top h i) (same alike)
meet c (edge left h) (below left r) one m n = edge_meets c left h r one m n
meet (fork c d j o) (edge left h) (below right r) one m n = absurd (j.clear_a one (edge_to h m) (point_on r n))
meet (fork c d j o) (edge right h) (below left r) one m n = absurd (j.clear_b one (edge_to h m) (point_on r n))
meet c (edge right h) (below right r) one m n = edge_meets c right h r one m n
meet c (below s p) root one m n = swap (root_meets c (below s p) one n m)
meet c (below left p) (edge left i) one m n = swap (edge_meets c left i p one n m)
meet (fork c d j o) (below left p) (edge right i) one m n = absurd (j.clear_b one (edge_to i n) (point_on p m))
meet (fork c d j o) (below right p) (edge left i) one m n = absurd (j.clear_a one (edge_to i n) (point_on p m))
meet c (below right p) (edge right i) one m n = swap (edge_meets c right i p one n m)
meet (fork c d j o) (below left p) (below left r) one m n = met_below left (meet c p r one m n)
meet (fork c d j o) (below left p) (below right r) one m n = absurd (j.apart one (point_on p m) (point_on r n))
meet (fork c d j o) (below right p) (below left r) one m n = absurd (j.apart one (point_on r n) (point_on p m))
meet (fork c d j o) (below right p) (below right r) one m n = met_below right (meet d p r one m n)

-- ---- untangled drawings are clean

pub node_ends : {L : Layout} (n : Node L) → (parent n ≡ n) × (child n ≡ n)
node_ends root = (refl, refl)
node_ends (below s n) = (ap (below s) (node_ends n).0, ap (below s) (node_ends n).1)

-- A node as a piece on which its own point is.
pub along_node : {L : Layout} (n : Node L) (q : ℕ) → Along n q (q * (point n).column) (q * (point n).row)
along_node n q = rw ((node_ends n).0, (node_ends n).1) (weights (at_start (point n) (point n) q))

only_end : {L : Layout} {n m : Node L} → Ends n m → n ≡ m
only_end {m} (inl e) = e ∙ (node_ends m).0
only_end {m} (inr e) = e ∙ (node_ends m).1

-- 21
one_node : {L : Layout} {n m : Node L} {q x y : ℕ} → Meet n m q x y → n ≡ m
one_node (same alike) = refl
one_node (common i e f z) = sym (only_end e) ∙ only_end f

distinct : {L : Layout} → Untangled L → (n m : Node L) → point n ≡ point m → n ≡ m
distinct c n m e = one_node (meet {q = 1} c n m (omega arith) (along_node n 1)
    (subst (λ (P : Point). Along m 1 (1 * P.column) (1 * P.row)) (sym e) (along_node m 1)))

-- 22
lower : {L : Layout} → Untangled L → (l : Edge L) → (point (parent l)).row < (point (child l)).row
lower bare l = elim l [ ]
lower (fork c d j o) (edge s h) = low_top (low j s) h
lower (fork c d j o) (below s l) = lower (untangled c d s) l

-- 23 and 25
share_end : {L : Layout} {l m : Edge L} {q x y : ℕ} → l ≢ m → Meet l m q x y → (n : Node L) × Ends n l × Ends n m × Is (point n) q x y
share_end d (same alike) = absurd (d refl)
share_end d (common n e f z) = (n, e, f, z)

lies_at_end : {L : Layout} {n : Node L} {l : Edge L} {q x y : ℕ} → Meet n l q x y → Ends n l
lies_at_end (same h) = elim h [ ]
lies_at_end {l} (common i e f z) = subst (λ k. Ends k l) (only_end e) f

-- 24
never : ◌≡◌ {A = ℕ} 0 1 → ⊥
never e = omega arith

ordered : {L : Layout} → Untangled L → (l m : Edge L) → parent l ≡ parent m → side l ≡ left → side m ≡ right →
    Before (point (parent l)) (point (child l)) (point (child m))
ordered bare l m e s t = elim l [ ]
ordered (fork c d j o) (edge left h) (edge left i) e s t = absurd (never (cc))
ordered (fork {P} c d j o) (edge left h) (edge right i) e s t = before P o h i
ordered (fork c d j o) (edge left h) (below u m) e s t = absurd (never (cc))
ordered (fork c d j o) (edge right h) m e s t = absurd (never (cc))
ordered (fork c d j o) (below u l) (edge v i) e s t = absurd (never (cc))
ordered (fork c d j o) (below left l) (below left m) e s t = ordered c l m (distinct c (parent l) (parent m) (ap point e)) s t
ordered (fork c d j o) (below left l) (below right m) e s t = absurd (never (cc))
ordered (fork c d j o) (below right l) (below left m) e s t = absurd (never (cc))
ordered (fork c d j o) (below right l) (below right m) e s t = ordered d l m (distinct d (parent l) (parent m) (ap point e)) s t

pub untangled_clean : {L : Layout} → Untangled L → Clean L
untangled_clean c = record {
  distinct = distinct c;
  lower = lower c;
  planar = λ l m d h. share_end d (meet c l m h.q≥1 (weights h.on_PQ) (weights h.on_RS));
  clear = λ n l h. lies_at_end (meet c n l h.q≥1 (along_node n h.q) (weights h.on));
  ordered = ordered c;
}
