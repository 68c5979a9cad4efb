-- The rows of what is placed along a spine (`rows`): the lowest one (`last`) gives the height, there are no more rows than nodes, and each row holds a node.
use mathlib.Core.Path.{◌≡◌, refl, subst, ◌∙◌}
use mathlib.Core.List.{List, [], ◌∷◌}
use mathlib.Core.Logic.{◌⊎◌, inl, inr, ⊎_elim, ⊎_map}
use Prim.Native.Nat.{ℕ, suc, ◌+◌, ◌-◌, ◌≤◌, ◌<◌, max}
use native.Mathlib.Decide.{dec_le}
use native.Mathlib.Omega.{arith}
use Rattle.segment.specs.declared.Point.{Point}
use Rattle.segment.specs.Segment.{at}
use Rattle.table.specs.Table.{Side, left, right}
use Rattle.table.specs.Tree.{Tree, size}
use Rattle.layout.specs.Layout.{Layout, blank, height, shift, flip}
use Rattle.layout.specs.Spine.{knee, ordinary, switch}
use Rattle.layout.specs.Drawing.{Part, part, join, place}
use Rattle.layout.proofs.Clean.{root, below}
use Rattle.layout.proofs.Points.{rooted_high}
use Rattle.layout.proofs.Motions.{height_below, height_flip}
use Rattle.layout.proofs.Rows.{shape, count, HoldsRow, row_shift, row_flip, count_shift, count_flip}
use Rattle.layout.proofs.Along.{Drawn, Stretch, turn, run, Proper, ended, a_knee, an_ordinary, a_switch, Reached}

-- The lowest row used when all is placed, what is pending too: H as the steps count it on, to the end of the spine.
unfoldable pub last : (H r p : ℕ) → List Part → ℕ
last H r p [] = H + p
last H r p (part knee k right D ∷ ps) = last (max H r + height D) (max H r + height D + 1) 0 ps
last H r p (part knee k left D ∷ ps) = last (max H r) (max H r + 1) (height D) ps
last H r p (part ordinary k s D ∷ ps) = last (r + height D) (r + max 1 (height D)) p ps
last H r p (part switch k s D ∷ ps) = last (r + height D + p) (r + 1) 0 ps

-- From a knee on: b is the lowest row, at most one for each node but the knee below H, and each row between holds a node.
pub record TurnRows (H b : ℕ) (N : Layout) : Type 0 where
  pub after : H ≤ b
  pub fits : height N ≤ suc b
  pub least : (z : ℕ) → height N ≤ z → H < z → b < z
  pub few : suc b ≤ H + max 1 (count N)
  pub filled : (j : ℕ) → H < j → j ≤ b → HoldsRow N j

-- Row j is kept for what is pending.
abbrev pub PendingRow : (p u j : ℕ) → Type 0
PendingRow p u j = (u ≤ j) × (j < u + p)

-- From another node on: the same, where p rows from u on are kept for what is pending.
pub record RunRows (H p u b : ℕ) (N : Layout) : Type 0 where
  pub after : H < u
  pub near : (z : ℕ) → height N ≤ z → H < z → u ≤ z
  pub room : u + p ≤ suc b
  pub fits : height N ≤ suc b
  pub least : (z : ℕ) → height N ≤ z → u + p ≤ z → b < z
  pub few : b ≤ H + count N + p
  pub filled : (j : ℕ) → H < j → j ≤ b → HoldsRow N j ⊎ PendingRow p u j

abbrev pub Rows : Stretch → (H p u b : ℕ) → Layout → Type 0
Rows turn H p u b N = p ≡ 0 → TurnRows H b N
Rows run H p u b N = RunRows H p u b N

-- ---- a node with D and N

record Joined (k : ℕ) (P : Point) (s : Side) (D N : Layout) : Type 0 where
  high : height (join k P s D N) ≡ max (suc P.row) (max (height D) (height N))
  many : count (join k P s D N) ≡ suc (count D + count N)
  here : (j : ℕ) → P.row ≡ j → HoldsRow (join k P s D N) j
  in_hung : {j : ℕ} → HoldsRow D j → HoldsRow (join k P s D N) j
  in_next : {j : ℕ} → HoldsRow N j → HoldsRow (join k P s D N) j

joined : (k : ℕ) (P : Point) (s : Side) (D N : Layout) → Joined k P s D N
unfolding join height shape size
joined k P left D N = record {
  high = refl;
  many = refl;
  here = λ j e. (root, e);
  in_hung = λ h. (below left h.0, h.1);
  in_next = λ h. (below right h.0, h.1);
}
joined k P right D N = record {
  high = omega arith;
  many = omega arith;
  here = λ j e. (root, e);
  in_hung = λ h. (below right h.0, h.1);
  in_next = λ h. (below left h.0, h.1);
}

-- A row of a hung drawing.
hung_row : (e t j : ℕ) {S : Tree} {D : Layout} → Drawn S D → t ≤ j → j < t + height D → HoldsRow (shift e t D) j
hung_row e t j g h i =
    let z = g.filled (j - t) (omega arith) in
    let m = row_shift e t z.0 in
    (m.0, omega (arith, m.1, z.1))

flip_row : (e j : ℕ) {N : Layout} → HoldsRow N j → HoldsRow (flip e N) j
flip_row e j h = let m = row_flip e h.0 in (m.0, m.1 ∙ h.1)

-- ---- the steps

nothing_left : (z : Stretch) (H p : ℕ) → Rows z H p (H + 1) (H + p) blank
unfolding height shape size
nothing_left turn H p = λ e. record {
  after = omega arith;
  fits = omega arith;
  least = λ z i j. omega arith;
  few = omega arith;
  filled = λ j l m. absurd (omega arith);
}
nothing_left run H p = record {
  after = omega arith;
  near = λ z i j. omega arith;
  room = omega arith;
  fits = omega arith;
  least = λ z i j. omega arith;
  few = omega arith;
  filled = λ j l m. inr (omega arith, omega arith);
}

rows_ordinary : (k : ℕ) (s : Side) (H r p : ℕ) {u b : ℕ} {S : Tree} {D N : Layout} → r ≤ H + 1 → H ≤ r → Drawn S D → RunRows (r + height D) p u b N →
    RunRows H p u b (join k (at 1 r) s (shift 2 (r + 1) D) N)
rows_ordinary k s H r p {u} {b} {D} {N} le ge g n = record {
  after = omega (arith, n.after);
  near = λ z i l. n.near z (omega (arith, J.high)) (omega (arith, J.high, height_below 2 (r + 1) D));
  room = n.room;
  fits = omega (arith, J.high, n.fits, n.after, n.room, height_below 2 (r + 1) D);
  least = λ z i l. n.least z (omega (arith, J.high)) l;
  few = omega (arith, J.many, n.few, g.short, count_shift 2 (r + 1) D);
  filled = λ j l m. go j l m (dec_le j r) (dec_le j (r + height D));
}
  where
    J : Joined k (at 1 r) s (shift 2 (r + 1) D) N
    J = joined k (at 1 r) s (shift 2 (r + 1) D) N

    go : (j : ℕ) → H < j → j ≤ b → Dec (j ≤ r) → Dec (j ≤ r + height D) → HoldsRow (join k (at 1 r) s (shift 2 (r + 1) D) N) j ⊎ PendingRow p u j
    go j l m (yes i) d = inl (J.here j (omega arith))
    go j l m (no i) (yes d) = inl (J.in_hung (hung_row 2 (r + 1) j g (omega arith) (omega arith)))
    go j l m (no i) (no d) = ⊎_map J.in_next (λ z. z) (n.filled j (omega arith) m)

rows_switch : (k W H r p : ℕ) {b : ℕ} {S : Tree} {D N : Layout} → r ≤ H + 1 → H ≤ r → Drawn S D → TurnRows (r + height D + p) b N →
    RunRows H p (r + height D + 1) b (join k (at 1 r) left (shift 1 (r + 1) D) (flip (W + 2) N))
rows_switch k W H r p {b} {D} {N} le ge g n = record {
  after = omega arith;
  near = λ z i l. omega (arith, J.high, height_below 1 (r + 1) D);
  room = omega (arith, n.after);
  fits = omega (arith, J.high, n.fits, n.after, height_below 1 (r + 1) D, height_flip (W + 2) N);
  least = λ z i l. n.least z (omega (arith, J.high, height_flip (W + 2) N)) (omega arith);
  few = omega (arith, J.many, n.few, g.short, count_shift 1 (r + 1) D, count_flip (W + 2) N);
  filled = λ j l m. go j l m (dec_le j r) (dec_le j (r + height D)) (dec_le j (r + height D + p));
}
  where
    J : Joined k (at 1 r) left (shift 1 (r + 1) D) (flip (W + 2) N)
    J = joined k (at 1 r) left (shift 1 (r + 1) D) (flip (W + 2) N)

    go : (j : ℕ) → H < j → j ≤ b → Dec (j ≤ r) → Dec (j ≤ r + height D) → Dec (j ≤ r + height D + p) →
        HoldsRow (join k (at 1 r) left (shift 1 (r + 1) D) (flip (W + 2) N)) j ⊎ PendingRow p (r + height D + 1) j
    go j l m (yes i) d c = inl (J.here j (omega arith))
    go j l m (no i) (yes d) c = inl (J.in_hung (hung_row 1 (r + 1) j g (omega arith) (omega arith)))
    go j l m (no i) (no d) (yes c) = inr (omega arith, omega arith)
    go j l m (no i) (no d) (no c) = inl (J.in_next (flip_row (W + 2) j (n.filled j (omega arith) m)))

rows_knee_right : (k H r : ℕ) {u b : ℕ} {S : Tree} {D N : Layout} → r ≤ H → Drawn S D → RunRows (H + height D) 0 u b N →
    TurnRows H b (join k (at 0 r) right (shift 1 (H + 1) D) N)
rows_knee_right k H r {u} {b} {D} {N} le g n = record {
  after = omega (arith, n.after, n.room);
  fits = omega (arith, J.high, n.fits, n.after, n.room, height_below 1 (H + 1) D);
  least = λ z i l. n.least z (omega (arith, J.high)) (omega (arith, n.near z (omega (arith, J.high)) (omega (arith, J.high, height_below 1 (H + 1) D))));
  few = omega (arith, J.many, n.few, g.short, count_shift 1 (H + 1) D);
  filled = λ j l m. go j l m (dec_le j (H + height D));
}
  where
    J : Joined k (at 0 r) right (shift 1 (H + 1) D) N
    J = joined k (at 0 r) right (shift 1 (H + 1) D) N

    go : (j : ℕ) → H < j → j ≤ b → Dec (j ≤ H + height D) → HoldsRow (join k (at 0 r) right (shift 1 (H + 1) D) N) j
    go j l m (yes d) = J.in_hung (hung_row 1 (H + 1) j g (omega arith) (omega arith))
    go j l m (no d) = ⊎_elim J.in_next (λ z. absurd (omega (arith, z.0, z.1))) (n.filled j (omega arith) m)

rows_knee_left : (k H r : ℕ) {u b : ℕ} {S : Tree} {D N : Layout} → r ≤ H → Drawn S D → RunRows H (height D) u b N →
    TurnRows H b (join k (at 0 r) left (shift 1 u D) N)
rows_knee_left k H r {u} {b} {D} {N} le g n = record {
  after = omega (arith, n.after, n.room);
  fits = omega (arith, J.high, n.fits, n.after, n.room, height_below 1 u D);
  least = λ z i l. n.least z (omega (arith, J.high)) (omega (arith, J.high, n.near z (omega (arith, J.high)) l, height_below 1 u D));
  few = omega (arith, J.many, n.few, g.short, count_shift 1 u D);
  filled = λ j l m. ⊎_elim J.in_next (λ z. J.in_hung (hung_row 1 u j g z.0 z.1)) (n.filled j l m);
}
  where
    J : Joined k (at 0 r) left (shift 1 u D) N
    J = joined k (at 0 r) left (shift 1 u D) N

same_row : {H H' b : ℕ} {N : Layout} → H' ≡ H → TurnRows H' b N → TurnRows H b N
same_row {b} {N} e n = subst (λ (i : ℕ). TurnRows i b N) e n

pub rows : (W H r p : ℕ) {z : Stretch} {ps : List Part} → Proper W z ps → Reached z H r →
    Rows z H p (place W H r p ps).under (last H r p ps) (place W H r p ps).drawn
unfolding place last join
rows W H r p (ended {z}) le = nothing_left z H p
rows W H r p (an_ordinary {k} {s} {D} g w b c) le =
    rows_ordinary k s H r p le.1 le.0 g (rows W (r + height D) (r + max 1 (height D)) p c (omega arith, omega arith))
rows W H r p (a_switch {k} {D} g w h c) le = rows_switch k W H r p le.1 le.0 g (rows W (r + height D + p) (r + 1) 0 c (omega (arith, rooted_high h)) refl)
rows W H r p (a_knee {k} {s = right} {D} g w c) le = λ e. let H' = max H r in
    same_row (omega arith) (rows_knee_right k H' r (omega arith) g (rows W (H' + height D) (H' + height D + 1) 0 c (omega arith, omega arith)))
rows W H r p (a_knee {k} {s = left} {D} g w c) le = λ e. let H' = max H r in
    same_row (omega arith) (rows_knee_left k H' r (omega arith) g (rows W H' (H' + 1) (height D) c (omega arith, omega arith)))
