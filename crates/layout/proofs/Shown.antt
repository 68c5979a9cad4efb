-- A plan shows a layout where each node's record has its point, moved: the layout is shifted, and on the right hand flipped (`Shown`). What is shown stays
-- shown under the motions (`shown_shift`, `shown_flip`), and so tells the rows and the rectangle of a drawing at its place (`hung_rows`, `in_hung`). Where
-- something is moved to is said by sums alone, so that no edge of the sheet is in the way.
use mathlib.Core.Path.{◌≡◌, ap}
use mathlib.Core.Logic.{◌↔◌, ⊎_elim}
use Prim.Native.Nat.{ℕ, ◌+◌, ◌-◌, ◌≤◌, ◌<◌}
use native.Mathlib.Omega.{arith}
use lib.Dec.{T}
use Rattle.segment.specs.declared.Point.{Point}
use Rattle.segment.specs.Segment.{at}
use Rattle.table.specs.Lists.{member}
use Rattle.table.specs.Table.{Side, left, right}
use Rattle.table.specs.Tree.{nodes}
use Rattle.table.proofs.Chain.{nodes_cases}
use Rattle.layout.specs.Layout.{Layout, blank, placed, width, height, shift, flip}
use Rattle.layout.specs.Spine.{opposite}
use Rattle.layout.specs.Drawing.{join}
use Rattle.layout.specs.Rectangle.{OccupiesRow, InRectangle}
use Rattle.layout.proofs.Clean.{root, below}
use Rattle.layout.proofs.Points.{InWindow}
use Rattle.layout.proofs.Rows.{shape}
use Rattle.layout.proofs.Records.{Agrees}

-- ---- layouts that a plan shows

-- x is the column c, b − a further to the right; on the right hand, with the columns turned round.
abbrev pub Column : Side → (a b x c : ℕ) → Type 0
Column left a b x c = x + a ≡ c + b
Column right a b x c = x + c + a ≡ b

-- The offsets of what is shifted e columns inwards, and of what is flipped at e.
abbrev pub less : Side → ℕ → ℕ → ℕ
less left a e = a
less right a e = a + e

abbrev pub more : Side → ℕ → ℕ → ℕ
more left b e = b + e
more right b e = b

-- Q is the point P, moved, and u rows further down.
pub record Moved (s : Side) (a b u : ℕ) (Q P : Point) : Type 0 where
  pub in_column : Column s a b Q.column P.column
  pub in_row : Q.row ≡ u + P.row

-- Q is a point for which A holds, so moved.
pub record NodeAt (s : Side) (a b u : ℕ) (A : Point → Type 0) (Q : Point) : Type 0 where
  pub P : Point
  pub moved : Moved s a b u Q P
  pub is : A P

-- The plan gives each node's record its point, so moved.
pub data Shown (plan : ℕ → Point) (s : Side) (a b u : ℕ) : Layout → Type 0 where
  shows_none : Shown plan s a b u blank
  shows_node : {k : ℕ} {P : Point} {L M : Layout} → Moved s a b u (plan k) P → Shown plan s a b u L → Shown plan s a b u M → Shown plan s a b u (placed k P L M)

moved_nowhere : (Q P : Point) → Q ≡ P → Moved left 0 0 0 Q P
moved_nowhere Q P e = record { in_column = omega (arith, ap (λ (Q : Point). Q.column) e); in_row = omega (arith, ap (λ (Q : Point). Q.row) e) }

-- A plan that gives each node of a layout its point shows it.
pub agrees_shown : (plan : ℕ → Point) (L : Layout) → Agrees plan L → Shown plan left 0 0 0 L
agrees_shown plan blank fit = shows_none
agrees_shown plan (placed k P L M) fit =
    shows_node (moved_nowhere (plan k) P (fit root)) (agrees_shown plan L (λ n. fit (below left n))) (agrees_shown plan M (λ n. fit (below right n)))

-- Its motions.
moved_shift : (s : Side) (a b u e t : ℕ) (Q P : Point) → Moved s a b u Q (at (e + P.column) (t + P.row)) → Moved s (less s a e) (more s b e) (u + t) Q P
moved_shift left a b u e t Q P m = record { in_column = omega (arith, m.in_column); in_row = omega (arith, m.in_row) }
moved_shift right a b u e t Q P m = record { in_column = omega (arith, m.in_column); in_row = omega (arith, m.in_row) }

pub shown_shift : {plan : ℕ → Point} {s : Side} {a b u : ℕ} (e t : ℕ) (L : Layout) → Shown plan s a b u (shift e t L) →
    Shown plan s (less s a e) (more s b e) (u + t) L
unfolding shift
shown_shift e t blank h = shows_none
shown_shift {plan} {s} {a} {b} {u} e t (placed k P L M) (shows_node m h i) =
    shows_node (moved_shift s a b u e t (plan k) P m) (shown_shift e t L h) (shown_shift e t M i)

-- There and back.
pub moved_flip : (s : Side) (a b u e : ℕ) (Q P : Point) → P.column ≤ e →
    Moved s a b u Q (at (e - P.column) P.row) ↔ Moved (opposite s) (less s a e) (more s b e) u Q P
unfolding opposite
moved_flip left a b u e Q P w =
    (λ m. record { in_column = omega (arith, m.in_column); in_row = m.in_row }, λ m. record { in_column = omega (arith, m.in_column); in_row = m.in_row })
moved_flip right a b u e Q P w =
    (λ m. record { in_column = omega (arith, m.in_column); in_row = m.in_row }, λ m. record { in_column = omega (arith, m.in_column); in_row = m.in_row })

pub shown_flip : {plan : ℕ → Point} {s : Side} {a b u : ℕ} (e : ℕ) (L : Layout) → width L ≤ e + 1 → Shown plan s a b u (flip e L) →
    Shown plan (opposite s) (less s a e) (more s b e) u L
unfolding flip width
shown_flip e blank w h = shows_none
shown_flip {plan} {s} {a} {b} {u} e (placed k P L M) w (shows_node m h i) =
    shows_node ((moved_flip s a b u e (plan k) P (omega arith)).0 m) (shown_flip e L (omega arith) i) (shown_flip e M (omega arith) h)

-- Its nodes are within its extents.
abbrev InExtents : Layout → Point → Type 0
InExtents L P = (P.column < width L) × (P.row < height L)

found : {plan : ℕ → Point} {s : Side} {a b u : ℕ} (k : ℕ) (L : Layout) → Shown plan s a b u L → T (member k (nodes (shape L))) →
    NodeAt s a b u (InExtents L) (plan k)
unfolding member nodes shape width height
found k blank h n = absurd n
found {plan} {s} {a} {b} {u} k (placed j P L M) (shows_node m h i) n = ⊎_elim
    (λ (e : k ≡ j). record { P = P; moved = rw e m; is = (omega arith, omega arith) })
    (⊎_elim (λ (c : T (member k (nodes (shape L)))). wider L (found k L h c) (omega arith) (omega arith))
    (λ (c : T (member k (nodes (shape M)))). wider M (found k M i c) (omega arith) (omega arith)))
    (nodes_cases k j (shape L) (shape M) n)
  where
    wider : (N : Layout) → NodeAt s a b u (InExtents N) (plan k) → width N ≤ width (placed j P L M) → height N ≤ height (placed j P L M) →
        NodeAt s a b u (InExtents (placed j P L M)) (plan k)
    wider N z v w = record { P = z.P; moved = z.moved; is = (omega (arith, z.is.0), omega (arith, z.is.1)) }

-- A spine node, what hangs from it, and the rest.
pub record JoinShown (plan : ℕ → Point) (s : Side) (a b u k : ℕ) (P : Point) (D N : Layout) : Type 0 where
  pub first : Moved s a b u (plan k) P
  pub hung : Shown plan s a b u D
  pub rest : Shown plan s a b u N

pub join_shown : {plan : ℕ → Point} {s : Side} {a b u k : ℕ} {P : Point} (h : Side) {D N : Layout} → Shown plan s a b u (join k P h D N) →
    JoinShown plan s a b u k P D N
unfolding join
join_shown left (shows_node m d n) = record { first = m; hung = d; rest = n }
join_shown right (shows_node m n d) = record { first = m; hung = d; rest = n }

-- ---- the rows and the rectangle of a drawing at its place

-- From its edge in column e, w columns wide: a column x of the plan between those of two of its nodes.
hung_columns : (s : Side) (a b e w x c : ℕ) {f g f' g' : ℕ} → Column s (less s a e) (more s b e) f f' → Column s (less s a e) (more s b e) g g' → f' < w →
    g' < w →
    f ≤ x → x ≤ g → Column s a b x c → (e ≤ c) × (c < e + w)
hung_columns left a b e w x c p q i j l m n = (omega arith, omega arith)
hung_columns right a b e w x c p q i j l m n = (omega arith, omega arith)

module _ {plan : ℕ → Point} {s : Side} {a b u : ℕ} (e t : ℕ) (D : Layout) (h : Shown plan s a b u (shift e t D)) where
  pub hung_rows : {x : ℕ} → OccupiesRow plan (shape D) x → (u + t ≤ x) × (x < u + t + height D)
  hung_rows o =
      let l = found o.one D (shown_shift e t D h) o.one_node in
      let g = found o.other D (shown_shift e t D h) o.other_node in
      (omega (arith, o.from, l.moved.in_row), omega (arith, o.to, g.moved.in_row, g.is.1))

  pub in_hung : {Q P : Point} → Moved s a b u Q P → InRectangle plan (shape D) Q → InWindow e (width D) t (height D) 1 P.column P.row
  in_hung {Q} {P} m z =
      let r = hung_rows z.0 in
      let l = found z.1.one D (shown_shift e t D h) z.1.one_node in
      let g = found z.1.other D (shown_shift e t D h) z.1.other_node in
      let c = hung_columns s a b e (width D) Q.column P.column l.moved.in_column g.moved.in_column l.is.0 g.is.0 z.1.from z.1.to
      m.in_column in
      record { from_column = omega (arith, c.0); to_column = omega (arith, c.1); from_row = omega (arith, m.in_row); to_row = omega (arith, m.in_row) }
