-- Laws of `store`: layouts of different records are stored in any order (`store_comm`), so a spine node's point, what hangs from it and the rest are, one after
-- the other (`store_join`). Rests on StoredPoints.
use mathlib.Core.Path.{◌≡◌, refl, ap, sym, ◌∙◌}
use mathlib.Core.Logic.{◌≢◌}
use mathlib.Core.List.{List}
use Prim.Native.Nat.{ℕ, ◌+◌, ◌*◌, ◌≤◌}
use native.Mathlib.Omega.{arith}
use lib.ListN.{set}
use lib.Seq.{set_comm}
use Rattle.segment.specs.declared.Point.{Point}
use Rattle.table.specs.Table.{Side, left, right}
use Rattle.table.proofs.Lists.{same_one}
use Rattle.layout.specs.Layout.{Layout, blank, placed}
use Rattle.layout.specs.Drawing.{join}
use Rattle.placements.proofs.Points.{pair}
use Rattle.drawing.specs.Answer.{store}
use Rattle.drawing.proofs.StoredPoints.{times, times_placed}

-- Points of different records are stored in any order.
pair_comm : (i j : ℕ) (P Q : Point) (p : List ℕ) → i ≢ j → pair (pair p j Q) i P ≡ pair (pair p i P) j Q
pair_comm i j P Q p n =
    ap (λ (l : List ℕ). set l (2 * i + 1) P.row)
    (set_comm (set p (2 * j) Q.column) (2 * j + 1) (2 * i) Q.row P.column (λ e. omega arith) ∙
    ap (λ (l : List ℕ). set l (2 * j + 1) Q.row) (set_comm p (2 * j) (2 * i) Q.column P.column (λ e. n (omega arith)))) ∙
    (set_comm (set (set p (2 * i) P.column) (2 * j) Q.column) (2 * j + 1) (2 * i + 1) Q.row P.row (λ e. n (omega arith)) ∙
    ap (λ (l : List ℕ). set l (2 * j + 1) Q.row) (set_comm (set p (2 * i) P.column) (2 * j) (2 * i + 1) Q.column P.row (λ e. omega arith)))

store_pair : (L : Layout) (i : ℕ) (P : Point) (p : List ℕ) → times i L ≡ 0 → store L (pair p i P) ≡ pair (store L p) i P
unfolding store
store_pair blank i P p none = refl
store_pair (placed k Q a b) i P p none =
    let e = times_placed i k Q a b in
    ap (λ (l : List ℕ). store b (store a l)) (pair_comm k i Q P p (λ q. omega (arith, same_one i k (sym q)))) ∙
    (ap (store b) (store_pair a i P (pair p k Q) (omega arith)) ∙ store_pair b i P (store a (pair p k Q)) (omega arith))

-- No record is in both layouts.
abbrev pub DisjointLayouts : Layout → Layout → Type 0
DisjointLayouts A B = (k : ℕ) → times k A + times k B ≤ 1

pub store_comm : (A B : Layout) (p : List ℕ) → DisjointLayouts A B → store A (store B p) ≡ store B (store A p)
unfolding store
store_comm blank B p h = refl
store_comm (placed k P a b) B p h =
    ap (λ (l : List ℕ). store b (store a l)) (sym (store_pair B k P p (omega (arith, times_placed k k P a b, h k, same_one k k refl)))) ∙
    (ap (store b) (store_comm a B (pair p k P) (λ i. omega (arith, times_placed i k P a b, h i))) ∙
    store_comm b B (store a (pair p k P)) (λ i. omega (arith, times_placed i k P a b, h i)))

-- A spine node: its point, what hangs from it, and then the rest.
pub store_join : (k : ℕ) (P : Point) (s : Side) (D N : Layout) (p : List ℕ) → DisjointLayouts D N → store (join k P s D N) p ≡ store N (store D (pair p k P))
unfolding store join
store_join k P left D N p h = refl
store_join k P right D N p h = store_comm D N _ h
