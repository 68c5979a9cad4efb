-- Laws of `store`: the length is kept (`store_length`), every entry but those of the layout's records is kept (`store_kept`), and the entries of a node of a
-- layout with distinct records are its point (`store_point`). Rests on the laws of placements (`placements`, proofs/Points).
use mathlib.Core.Path.{◌≡◌, refl, ap, ap₂, ◌∙◌}
use mathlib.Core.Logic.{◌≢◌}
use mathlib.Core.List.{List}
use Prim.Native.Nat.{ℕ, ◌+◌, ◌*◌, ◌≤◌, ◌<◌}
use native.Mathlib.Omega.{arith}
use lib.ListN.{length, get_or, set, length-set}
use lib.Seq.{get_or-set_other}
use Rattle.segment.specs.declared.Point.{Point}
use Rattle.segment.specs.Segment.{at}
use Rattle.table.specs.Lists.{count}
use Rattle.table.specs.Table.{left, right}
use Rattle.table.specs.Tree.{nodes}
use Rattle.table.proofs.Lists.{same, same_one}
use Rattle.table.proofs.Chain.{count_node}
use Rattle.layout.specs.Layout.{Layout, blank, placed}
use Rattle.layout.proofs.Clean.{Node, root, below, point, record_of}
use Rattle.layout.proofs.Rows.{shape}
use Rattle.placements.specs.Placements.{point_of}
use Rattle.placements.proofs.Points.{pair, pair_point}
use Rattle.drawing.specs.Answer.{store}

-- How often a layout has the record k.
abbrev pub times : ℕ → Layout → ℕ
times k L = count k (nodes (shape L))

pub store_length : (L : Layout) (p : List ℕ) → length (store L p) ≡ length p
unfolding store
store_length blank p = refl
store_length (placed k P a b) p = store_length b _ ∙ (store_length a _ ∙ simp length-set)

pub times_placed : (k j : ℕ) (P : Point) (a b : Layout) → times k (placed j P a b) ≡ same k j + (times k a + times k b)
unfolding shape
times_placed k j P a b = count_node k j (shape a) (shape b)

pub times_node : (L : Layout) (n : Node L) → 1 ≤ times (record_of n) L
times_node blank n = elim n [ ]
times_node (placed j P a b) root = omega (arith, times_placed j j P a b, same_one j j refl)
times_node (placed j P a b) (below left n) = omega (arith, times_placed (record_of n) j P a b, times_node a n)
times_node (placed j P a b) (below right n) = omega (arith, times_placed (record_of n) j P a b, times_node b n)

-- An entry that is none of the layout's.
abbrev pub Outside : ℕ → Layout → Type 0
Outside i L = (k : ℕ) → 1 ≤ times k L → (i ≢ 2 * k) × (i ≢ 2 * k + 1)

pub store_kept : (L : Layout) (p : List ℕ) (i : ℕ) → Outside i L → get_or (store L p) i 0 ≡ get_or p i 0
unfolding store
store_kept blank p i out = refl
store_kept (placed k P a b) p i out =
    store_kept b _ i (λ j h. out j (omega (arith, times_placed j k P a b))) ∙
    (store_kept a (pair p k P) i (λ j h. out j (omega (arith, times_placed j k P a b))) ∙
    (get_or-set_other (set p (2 * k) P.column) (2 * k + 1) i P.row 0 here.1 ∙ get_or-set_other p (2 * k) i P.column 0 here.0))
  where
    here : (i ≢ 2 * k) × (i ≢ 2 * k + 1)
    here = out k (omega (arith, times_placed k k P a b, same_one k k refl))

-- The entries of a record that the layout does not have.
pub kept_point : (L : Layout) (p : List ℕ) (j : ℕ) → times j L ≡ 0 → point_of (store L p) j ≡ point_of p j
kept_point L p j none = ap₂ at (store_kept L p (2 * j) (λ k h. (λ e. other k h (omega arith), λ e. omega arith)))
    (store_kept L p (2 * j + 1) (λ k h. (λ e. omega arith, λ e. other k h (omega arith))))
  where
    other : (k : ℕ) → 1 ≤ times k L → j ≡ k → ⊥
    other k h e = omega (arith, ap (λ (n : ℕ). times n L) e)

pub store_point : (L : Layout) (p : List ℕ) → ((k : ℕ) → times k L ≤ 1) → ((k : ℕ) → 1 ≤ times k L → 2 * k + 1 < length p) → (n : Node L) →
    point_of (store L p) (record_of n) ≡ point n
unfolding store
store_point blank p once room n = elim n [ ]
store_point (placed k P a b) p once room root =
    kept_point b (store a (pair p k P)) k (omega (arith, once k, times_placed k k P a b, same_one k k refl)) ∙
    (kept_point a (pair p k P) k (omega (arith, once k, times_placed k k P a b, same_one k k refl)) ∙
    pair_point p k P (room k (omega (arith, times_placed k k P a b, same_one k k refl))))
store_point (placed k P a b) p once room (below left n) =
    kept_point b (store a (pair p k P)) (record_of n) (omega (arith, once (record_of n), times_placed (record_of n) k P a b, times_node a n)) ∙
    store_point a (pair p k P) (λ j. omega (arith, once j, times_placed j k P a b)) (λ j h. simp length-set (room j (omega (arith, times_placed j k P a b)))) n
store_point (placed k P a b) p once room (below right n) =
    store_point b (store a (pair p k P)) (λ j. omega (arith, once j, times_placed j k P a b))
    (λ j h. rw (store_length a (pair p k P)) (simp length-set (room j (omega (arith, times_placed j k P a b))))) n
