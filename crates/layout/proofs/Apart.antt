-- No shared rows along one spine (`spread`): hung drawings share no row, and spine nodes are outside their rectangles, by the rows and columns that the
-- steps give, wherever a plan shows the spine. Along the spine, from its end to its start; rests on the steps and on Shown, and not on the drawing being
-- untangled.
use mathlib.Core.Path.{◌≡◌, refl, sym}
use mathlib.Core.List.{List, [], ◌∷◌}
use Prim.Native.Nat.{ℕ, ◌+◌, ◌-◌, ◌≤◌, ◌<◌, max}
use native.Mathlib.Omega.{arith}
use Rattle.segment.specs.declared.Point.{Point}
use Rattle.segment.specs.Segment.{at}
use Rattle.table.specs.Table.{Side, left, right}
use Rattle.layout.specs.Layout.{Layout, width, height}
use Rattle.layout.specs.Spine.{Role, knee, ordinary, switch, opposite}
use Rattle.layout.specs.Drawing.{Part, part, widest, join, place}
use Rattle.layout.specs.Rectangle.{OccupiesRow, InRectangle}
use Rattle.layout.proofs.Points.{rooted_high}
use Rattle.layout.proofs.Rows.{shape}
use Rattle.layout.proofs.Along.{Stretch, turn, run, Proper, ended, a_knee, an_ordinary, a_switch, Reached}
use Rattle.layout.proofs.Heights.{PendingRow}
use Rattle.layout.proofs.Spines.{place_wide}
use Rattle.layout.proofs.Shown.{less, more, Moved, NodeAt, moved_flip, Shown, shown_flip, join_shown, hung_rows, in_hung}

-- ---- the parts of a spine

-- From the spine node k hangs what is drawn as D.
pub data PartOf (k : ℕ) (D : Layout) : List Part → Type 0 where
  first_part : {o : Role} {s : Side} {ps : List Part} → PartOf k D (part o k s D ∷ ps)
  later_part : {q : Part} {ps : List Part} → PartOf k D ps → PartOf k D (q ∷ ps)

-- The law, of the parts of a spine.
pub record SpineApart (plan : ℕ → Point) (ps : List Part) : Type 0 where
  pub apart : {k m x : ℕ} {D E : Layout} → PartOf k D ps → PartOf m E ps → OccupiesRow plan (shape D) x → OccupiesRow plan (shape E) x → k ≡ m
  pub outside : {k m : ℕ} {D E : Layout} → PartOf k D ps → PartOf m E ps → InRectangle plan (shape E) (plan k) → ⊥

-- The form in which the argument goes: also, A holds of all spine nodes, and R of all rows that hung drawings occupy.
pub record Spread (plan : ℕ → Point) (s : Side) (a b u : ℕ) (A : Point → Type 0) (R : ℕ → Type 0) (ps : List Part) : Type 0 where
  pub law : SpineApart plan ps
  pub node : {k : ℕ} {D : Layout} → PartOf k D ps → NodeAt s a b u A (plan k)
  pub hung : {k x : ℕ} {D : Layout} → PartOf k D ps → OccupiesRow plan (shape D) x → R x

-- A spine node at P from which D hangs, before the rest: from A and R of the rest to A' and R' of the whole.
record Leads (plan : ℕ → Point) (s : Side) (a b u : ℕ) (A A' : Point → Type 0) (R R' : ℕ → Type 0) (P : Point) (D : Layout) : Type 0 where
  -- D is in rows of its own, the spine nodes after P are outside its rectangle, and P is in no row of a hung drawing.
  alone : {x : ℕ} → OccupiesRow plan (shape D) x → R x → ⊥
  clear : {Q Q' : Point} → Moved s a b u Q' Q → A Q → InRectangle plan (shape D) Q' → ⊥
  over : R' (u + P.row) → ⊥
  first : A' P
  nodes : {Q : Point} → A Q → A' Q
  row : {x : ℕ} → OccupiesRow plan (shape D) x → R' x
  rows : {x : ℕ} → R x → R' x

module _ {plan : ℕ → Point} {s : Side} {a b u : ℕ} {A A' : Point → Type 0} {R R' : ℕ → Type 0} {o : Role} {h : Side} {k : ℕ} {P : Point} {D : Layout}
    {ps : List Part}
    (m : Moved s a b u (plan k) P) (g : Leads plan s a b u A A' R R' P D) (n : Spread plan s a b u A R ps) where
  spread_hung : {j x : ℕ} {E : Layout} → PartOf j E (part o k h D ∷ ps) → OccupiesRow plan (shape E) x → R' x
  spread_hung first_part y = g.row y
  spread_hung (later_part q) y = g.rows (n.hung q y)

  spread_node : {j : ℕ} {E : Layout} → PartOf j E (part o k h D ∷ ps) → NodeAt s a b u A' (plan j)
  spread_node first_part = record { P = P; moved = m; is = g.first }
  spread_node (later_part q) = let z = n.node q in record { P = z.P; moved = z.moved; is = g.nodes z.is }

  spread_apart : {j l x : ℕ} {E F : Layout} → PartOf j E (part o k h D ∷ ps) → PartOf l F (part o k h D ∷ ps) → OccupiesRow plan (shape E) x →
      OccupiesRow plan (shape F) x → j ≡ l
  spread_apart first_part first_part y z = refl
  spread_apart first_part (later_part q) y z = absurd (g.alone y (n.hung q z))
  spread_apart (later_part q) first_part y z = absurd (g.alone z (n.hung q y))
  spread_apart (later_part q) (later_part r) y z = n.law.apart q r y z

  spread_outside : {j l : ℕ} {E F : Layout} → PartOf j E (part o k h D ∷ ps) → PartOf l F (part o k h D ∷ ps) → InRectangle plan (shape F) (plan j) → ⊥
  spread_outside first_part r z = g.over (rw (sym m.in_row) (spread_hung r z.0))
  spread_outside (later_part q) first_part z = let v = n.node q in g.clear v.moved v.is z
  spread_outside (later_part q) (later_part r) z = n.law.outside q r z

  spread_join : Spread plan s a b u A' R' (part o k h D ∷ ps)
  spread_join = record { law = record { apart = spread_apart; outside = spread_outside }; node = spread_node; hung = spread_hung }

-- After a switch: the drawing of the other hand.
spread_flip : {plan : ℕ → Point} (s : Side) (a b u e : ℕ) {A A' : Point → Type 0} {R : ℕ → Type 0} {ps : List Part} → ((P : Point) → A P → P.column ≤ e) →
    ((P : Point) → A P → A' (at (e - P.column) P.row)) → Spread plan (opposite s) (less s a e) (more s b e) u A R ps → Spread plan s a b u A' R ps
spread_flip {plan} s a b u e w f n = record {
  law = n.law;
  node = λ {k} q. let z = n.node q in
      record { P = at (e - z.P.column) z.P.row; moved = (moved_flip s a b u e (plan k) z.P (w z.P z.is)).1 z.moved; is = f z.P z.is };
  hung = n.hung;
}

-- ---- along a spine

-- A spine node is in row r or below, within the frame; down to row H there is only the first one, in column c.
pub record From (W c H r : ℕ) (Q : Point) : Type 0 where
  pub from : r ≤ Q.row
  pub first : Q.row ≤ H → Q.column ≡ c
  pub framed : Q.column ≤ W + 2

-- From a knee on, all but the knee is below H, the lowest row used before. From another node on, all else is below it; in the rows kept for what is pending
-- nothing hangs, and spine nodes are beyond the W columns that are kept.
abbrev pub SpreadOn : (ℕ → Point) → Side → (a b u : ℕ) → Stretch → (W H r p v : ℕ) → List Part → Type 0
SpreadOn plan s a b u turn W H r p v ps = Spread plan s a b u (From W 0 H r) (λ x. u + H < x) ps
SpreadOn plan s a b u run W H r p v ps =
    Spread plan s a b u (λ Q. From W 1 r r Q × (PendingRow p v Q.row → W < Q.column)) (λ x. (u + r < x) × (PendingRow p (u + v) x → ⊥)) ps

-- What is pending goes below H.
pending_below : (W H r p : ℕ) {ps : List Part} → Proper W run ps → H ≤ r → H < (place W H r p ps).under
unfolding place
pending_below W H r p ended le = omega arith
pending_below W H r p (an_ordinary {D} {ps} g w b c) le = let i = pending_below W (r + height D) (r + max 1 (height D)) p c (omega arith) in omega arith
pending_below W H r p (a_switch g w h c) le = omega arith

spread_none : {plan : ℕ → Point} {s : Side} {a b u : ℕ} {A : Point → Type 0} {R : ℕ → Type 0} → Spread plan s a b u A R []
spread_none = record {
  law = record { apart = λ q. absurd (no_part q); outside = λ q. absurd (no_part q) };
  node = λ q. absurd (no_part q);
  hung = λ q. absurd (no_part q);
}
  where
    no_part : {k : ℕ} {D : Layout} → PartOf k D [] → ⊥
    no_part q = elim q [ ]

spread_end : (plan : ℕ → Point) (s : Side) (a b u : ℕ) (z : Stretch) (W H r p v : ℕ) → SpreadOn plan s a b u z W H r p v []
spread_end plan s a b u turn W H r p v = spread_none
spread_end plan s a b u run W H r p v = spread_none

-- What is placed from such a node on, wherever a plan shows it.
abbrev pub Spreads : (W : ℕ) → Stretch → List Part → Type 0
Spreads W z ps = (plan : ℕ → Point) (s : Side) (a b u H r p : ℕ) → Reached z H r → Shown plan s a b u (place W H r p ps).drawn →
    SpreadOn plan s a b u z W H r p (place W H r p ps).under ps

spread_ordinary : (W k : ℕ) (h : Side) (D : Layout) (ps : List Part) → Proper W run ps → Spreads W run ps → Spreads W run (part ordinary k h D ∷ ps)
unfolding place
spread_ordinary W k h D ps c n plan s a b u H r p le sh =
    let z = join_shown h sh in
    let l = pending_below W (r + height D) (r + max 1 (height D)) p c (omega arith) in
    spread_join z.first (record {
      alone = λ y q. let i = hung_rows _ _ D z.hung y in omega (arith, q.0);
      clear = λ m q y. let i = in_hung _ _ D z.hung m y in omega (arith, q.0.first (omega (arith, i.to_row)), i.from_column);
      over = λ q. omega (arith, q.0);
      first = (record { from = omega arith; first = λ y. refl; framed = omega arith }, λ y. absurd (omega arith));
      nodes = λ q. (record { from = omega (arith, q.0.from); first = λ y. absurd (omega (arith, q.0.from)); framed = q.0.framed }, q.1);
      row = λ y. let i = hung_rows _ _ D z.hung y in (omega arith, λ q. omega arith);
      rows = λ q. (omega (arith, q.0), q.1);
    }) (n plan s a b u _ _ p (omega arith, omega arith) z.rest)

spread_switch : (W k : ℕ) (D : Layout) (ps : List Part) → width D ≤ W → widest ps ≤ W → 1 ≤ height D → Spreads W turn ps →
    Spreads W run (part switch k left D ∷ ps)
unfolding place
spread_switch W k D ps v w one n plan s a b u H r p le sh =
    let z = join_shown left sh in
    spread_join z.first (record {
      alone = λ y q. let i = hung_rows _ _ D z.hung y in omega arith;
      clear = λ m q y. let i = in_hung _ _ D z.hung m y in omega (arith, q.first (omega (arith, i.to_row)), i.to_column);
      over = λ q. omega (arith, q.0);
      first = (record { from = omega arith; first = λ y. refl; framed = omega arith }, λ y. absurd (omega arith));
      nodes = λ q. (
        record { from = omega (arith, q.from); first = λ y. absurd (omega (arith, q.from)); framed = q.framed },
        λ y. omega (arith, q.first (omega arith)),
      );
      row = λ y. let i = hung_rows _ _ D z.hung y in (omega arith, λ q. omega arith);
      rows = λ q. (omega arith, λ y. omega arith);
    }) (spread_flip s a b u (W + 2) {A' = From W (W + 2) (r + height D + p) (r + 1)} (λ P q. q.framed)
    (λ P q. record { from = q.from; first = λ y. omega (arith, q.first y); framed = omega arith })
    (n plan _ _ _ u _ _ 0 (omega arith) (shown_flip (W + 2) _ (omega (arith, place_wide W ps w (r + height D + p) (r + 1) 0)) z.rest)))

spread_right : (W k : ℕ) (D : Layout) (ps : List Part) → Spreads W run ps → Spreads W turn (part knee k right D ∷ ps)
unfolding place join
spread_right W k D ps n plan s a b u H r p le sh =
    let z = join_shown right sh in
    spread_join z.first (record {
      alone = λ y q. let i = hung_rows _ _ D z.hung y in omega (arith, q.0);
      clear = λ m q y. let i = in_hung _ _ D z.hung m y in omega (arith, q.0.from, i.to_row);
      over = λ q. omega arith;
      first = record { from = omega arith; first = λ y. refl; framed = omega arith };
      nodes = λ q. record { from = omega (arith, q.0.from); first = λ y. absurd (omega (arith, q.0.from)); framed = q.0.framed };
      row = λ y. let i = hung_rows _ _ D z.hung y in omega arith;
      rows = λ q. omega (arith, q.0);
    }) (n plan s a b u _ _ 0 (omega arith, omega arith) z.rest)

spread_left : (W k : ℕ) (D : Layout) (ps : List Part) → width D ≤ W → Proper W run ps → Spreads W run ps → Spreads W turn (part knee k left D ∷ ps)
unfolding place join
spread_left W k D ps w c n plan s a b u H r p le sh =
    let z = join_shown left sh in
    let l = pending_below W (max H r) (max H r + 1) (height D) c (omega arith) in
    spread_join z.first (record {
      alone = λ y q. let i = hung_rows _ _ D z.hung y in q.1 (omega arith, omega arith);
      clear = λ m q y. let i = in_hung _ _ D z.hung m y in omega (arith, q.1 (omega (arith, i.from_row), omega (arith, i.to_row)), i.to_column);
      over = λ q. omega arith;
      first = record { from = omega arith; first = λ y. refl; framed = omega arith };
      nodes = λ q. record { from = omega (arith, q.0.from); first = λ y. absurd (omega (arith, q.0.from)); framed = q.0.framed };
      row = λ y. let i = hung_rows _ _ D z.hung y in omega arith;
      rows = λ q. omega (arith, q.0);
    }) (n plan s a b u _ _ (height D) (omega arith, omega arith) z.rest)

pub spread : (W : ℕ) {z : Stretch} {ps : List Part} → Proper W z ps → widest ps ≤ W → Spreads W z ps
unfolding widest
spread W (ended {z}) w = λ plan s a b u H r p le sh. spread_end plan s a b u z W H r p _
spread W (an_ordinary {k} {s} {D} {ps} g v o c) w = spread_ordinary W k s D ps c (spread W c (omega arith))
spread W (a_switch {k} {D} {ps} g v h c) w = spread_switch W k D ps v (omega arith) (rooted_high h) (spread W c (omega arith))
spread W (a_knee {k} {s = right} {D} {ps} g v c) w = spread_right W k D ps (spread W c (omega arith))
spread W (a_knee {k} {s = left} {D} {ps} g v c) w = spread_left W k D ps v c (spread W c (omega arith))
