-- One node further along a spine: what is left from there gives the same, and drawing can go on. A lemma for each role, over the hand and the side of the
-- hung child. Rests on StoredOrder, Shapes and Columns.
use mathlib.Core.Path.{◌≡◌, refl, ap, sym, subst, ◌∙◌}
use mathlib.Core.Bool.{Bool, true, false}
use mathlib.Core.List.{List, [], ◌∷◌}
use Prim.Native.Nat.{ℕ, ◌+◌, ◌≤◌, max}
use native.Mathlib.Omega.{arith}
use lib.Dec.{T}
use lib.ListN.{get_or}
use Rattle.segment.specs.Segment.{at}
use Rattle.table.specs.Table.{Side, left, right}
use Rattle.table.specs.Tree.{Tree, none, node}
use Rattle.layout.specs.Layout.{Layout}
use Rattle.layout.specs.Spine.{SpineNode, hangs, Role, knee, ordinary, switch, opposite, seen, run_role, role_after, hand_after}
use Rattle.layout.specs.Drawing.{Rest, join}
use Rattle.placements.specs.Placements.{with_point}
use Rattle.layout.specs.inner.Held.{inwards, hung_on, height_on, width_on, role_next, far, lay, bottom, Inside, GoesOn, Rooms, knee_room, ordinary_room}
use Rattle.layout.specs.inner.Held.{switch_room}
use Rattle.layout.proofs.Spines.{spine_tree}
use Rattle.layout.proofs.Sides.{shape_hung, hung_none, height_none, width_none}
use Rattle.layout.proofs.Held.{inside_less}
use Rattle.roles.specs.Chosen.{code_of}
use Rattle.roles.specs.inner.Prepared.{Prepared, Along, no_spine, onward}
use Rattle.drawing.specs.Answer.{store}
use Rattle.roles.specs.inner.Roles.{is_switch}
use Rattle.drawing.specs.inner.Placing.{kept, finish, finished, Ready}
use Rattle.drawing.proofs.StoredOrder.{DisjointLayouts, store_comm, store_join}
use Rattle.drawing.proofs.Shapes.{Disjoint, shape_lay}
use Rattle.drawing.proofs.Columns.{over_edge, over_back}

-- ---- what is pending

-- In a run it is kept.
kept_then : (l m : SpineNode) (ls : List SpineNode) (Q : Tree) → kept (run_role m) (l ∷ ls) Q ≡ Q
unfolding kept run_role
kept_then l (hangs k left none) ls Q = refl
kept_then l (hangs k left (node i b c)) ls Q = refl
kept_then l (hangs k right S) ls Q = refl

kept_run : (a : Side) (o : Role) (ls : List SpineNode) (Q : Tree) → is_switch o ≡ false → kept (role_next a o ls) ls Q ≡ Q
unfolding kept role_next role_after
kept_run a o [] Q h = refl
kept_run a knee (l ∷ ls) Q h = kept_then l (seen a l) ls Q
kept_run a ordinary (l ∷ ls) Q h = kept_then l (seen a l) ls Q
kept_run a switch (l ∷ ls) Q h = cc

kept_none : (o : Role) (ls : List SpineNode) → kept o ls none ≡ none
unfolding kept
kept_none o [] = refl
kept_none knee (l ∷ ls) = refl
kept_none ordinary (l ∷ ls) = refl
kept_none switch (l ∷ ls) = refl

store_none : (a : Side) (e t : ℕ) (p : List ℕ) → store (hung_on a e t none) p ≡ p
unfolding store
store_none a e t p = ap (λ (L : Layout). store L p) (hung_none a e t)

pub finished_none : (W : ℕ) (a : Side) (e : ℕ) (o : Role) (H r : ℕ) (ls : List SpineNode) (p : List ℕ) →
    finished W a e o H r none ls p ≡ store (lay a e (inwards a e (W + 2)) o H r 0 ls).drawn p
unfolding finished finish
finished_none W a e o H r ls p = rw (kept_none o ls, height_none a) (store_none a _ _ _)

pub finished_run : (W : ℕ) (a : Side) (e : ℕ) (o : Role) (H r : ℕ) (Q : Tree) (ls : List SpineNode) (p : List ℕ) → is_switch o ≡ false →
    finished W a e (role_next a o ls) H r Q ls p ≡ finish a e Q (lay a e (inwards a e (W + 2)) (role_next a o ls) H r (height_on a Q) ls) p
unfolding finished
finished_run W a e o H r Q ls p h =
    ap (λ (T : Tree). finish a e T (lay a e (inwards a e (W + 2)) (role_next a o ls) H r (height_on a Q) ls) p) (kept_run a o ls Q h)

-- ---- what is left gives the same

apart_laid : (a b : Side) (e e' f t : ℕ) (o : Role) (H r p : ℕ) (S : Tree) (ls : List SpineNode) → Disjoint S (spine_tree ls) →
    DisjointLayouts (hung_on a e t S) (lay b e' f o H r p ls).drawn
apart_laid a b e e' f t o H r p S ls h = rw (shape_hung a e t S, shape_lay b e' f o H r p ls) h

module _ (W : ℕ) (a : Side) (e H r k : ℕ) (s : Side) (S Q : Tree) (ls : List SpineNode) (p : List ℕ) (apart : Disjoint S (spine_tree ls)) where
  abbrev f : ℕ
  f = inwards a e (W + 2)

  -- A knee forgets what was pending before it.
  at_knee : finished W a e knee H r Q (hangs k s S ∷ ls) p ≡ store (lay a e f knee H r (height_on a Q) (hangs k s S ∷ ls)).drawn p
  unfolding finished finish kept
  at_knee = store_none a _ _ _

  abbrev after_far : Rest
  after_far = lay a e f (role_next a knee ls) (max H r + height_on a S) (max H r + height_on a S + 1) 0 ls

  abbrev after_near : Rest
  after_near = lay a e f (role_next a knee ls) (max H r) (max H r + 1) (height_on a S) ls

  abbrev after_ordinary : Rest
  after_ordinary = lay a e f (role_next a ordinary ls) (r + height_on a S) (r + max 1 (height_on a S)) (height_on a Q) ls

  pub knee_far : far a s ≡ true →
      finished W a e (role_next a knee ls) (max H r + height_on a S) (max H r + height_on a S + 1) none ls
      (store (hung_on a (inwards a e 1) (max H r + 1) S) (with_point k e r p))
      ≡ finished W a e knee H r Q (hangs k s S ∷ ls) p
  unfolding lay
  knee_far h = finished_none W a e _ _ _ ls _ ∙
      sym (at_knee ∙ (ap (λ (L : Layout). store L p) laid ∙ store_join k (at e r) s _ _ p (apart_laid a a _ e _ _ _ _ _ _ S ls apart)))
    where
      laid : (lay a e f knee H r (height_on a Q) (hangs k s S ∷ ls)).drawn ≡ join k (at e r) s (hung_on a (inwards a e 1) (max H r + 1) S) after_far.drawn
      laid = rw (h, lay)

  pub knee_near : far a s ≡ false →
      finished W a e (role_next a knee ls) (max H r) (max H r + 1) S ls (with_point k e r p) ≡ finished W a e knee H r Q (hangs k s S ∷ ls) p
  unfolding lay finish
  knee_near h = finished_run W a e knee _ _ S ls _ refl ∙
      (store_comm _ _ _ sides ∙ sym (at_knee ∙ (ap (λ (L : Layout). store L p) laid ∙ store_join k (at e r) s _ _ p sides)))
    where
      laid : (lay a e f knee H r (height_on a Q) (hangs k s S ∷ ls)).drawn ≡
          join k (at e r) s (hung_on a (inwards a e 1) after_near.under S) after_near.drawn
      laid = rw (h, lay)

      sides : DisjointLayouts (hung_on a (inwards a e 1) after_near.under S) after_near.drawn
      sides = apart_laid a a _ e _ _ _ _ _ _ S ls apart

  pub ordinary_on : finished W a e (role_next a ordinary ls) (r + height_on a S) (r + max 1 (height_on a S)) Q ls
      (store (hung_on a (inwards a e 2) (r + 1) S) (with_point k (inwards a e 1) r p))
      ≡ finished W a e ordinary H r Q (hangs k s S ∷ ls) p
  unfolding lay finish finished kept
  ordinary_on = finished_run W a e ordinary _ _ Q ls _ refl ∙ ap (store (hung_on a (inwards a e 1) after_ordinary.under Q))
      (sym (store_join k (at (inwards a e 1) r) s _ _ p (apart_laid a a _ e _ _ _ _ _ _ S ls apart)))

  abbrev after_switch : ℕ → Rest
  after_switch g = lay (opposite a) f g (role_next (opposite a) switch ls) (r + height_on a S + height_on a Q) (r + 1) 0 ls

  abbrev drawn_both : List ℕ
  drawn_both = store (hung_on a (inwards a e 1) (r + height_on a S + 1) Q) (store (hung_on a (inwards a e 1) (r + 1) S) (with_point k (inwards a e 1) r p))

  pub switch_over : Inside 65536 a e (W + 3) → Disjoint Q (spine_tree ls) →
      finished W (opposite a) f (role_next (opposite a) switch ls) (r + height_on a S + height_on a Q) (r + 1) none ls drawn_both ≡
      finished W a e switch H r Q (hangs k s S ∷ ls) p
  unfolding lay finish finished kept
  switch_over c apart' = finished_none W (opposite a) f _ _ _ ls _ ∙
      (ap (λ (g : ℕ). store (after_switch g).drawn drawn_both) (over_back a e (W + 2) (inside_less 65536 a e (omega arith) c))
      ∙ (sym (store_comm _ _ _ (apart_laid a (opposite a) _ f e _ _ _ _ _ Q ls apart'))
      ∙ ap (store (hung_on a (inwards a e 1) (r + height_on a S + 1) Q))
      (sym (store_join k (at (inwards a e 1) r) s _ _ p (apart_laid a (opposite a) _ f e _ _ _ _ _ S ls apart)))))

-- ---- the first row below

pub bottom_far : (a s : Side) (H r p k : ℕ) (S : Tree) (ls : List SpineNode) → far a s ≡ true →
    bottom a (role_next a knee ls) (max H r + height_on a S) (max H r + height_on a S + 1) (height_on a none) ls ≡ bottom a knee H r p (hangs k s S ∷ ls)
unfolding bottom
bottom_far a s H r p k S ls h = rw (h, height_none a, bottom)

pub bottom_near : (a s : Side) (H r p k : ℕ) (S : Tree) (ls : List SpineNode) → far a s ≡ false →
    bottom a (role_next a knee ls) (max H r) (max H r + 1) (height_on a S) ls ≡ bottom a knee H r p (hangs k s S ∷ ls)
unfolding bottom
bottom_near a s H r p k S ls h = rw (h, bottom)

pub bottom_over : (a s : Side) (H r p k : ℕ) (S : Tree) (ls : List SpineNode) →
    bottom (opposite a) (role_next (opposite a) switch ls) (r + height_on a S + p) (r + 1) (height_on (opposite a) none) ls ≡
    bottom a switch H r p (hangs k s S ∷ ls)
unfolding bottom
bottom_over a s H r p k S ls = rw (height_none (opposite a))

-- What is used so far is above it: from a knee on, and in a run from the lowest row on.
abbrev Low : Role → (H r : ℕ) → List SpineNode → Type 0
Low o H r [] = Unit {0}
Low knee H r (l ∷ ls) = Unit {0}
Low ordinary H r (l ∷ ls) = H ≤ r
Low switch H r (l ∷ ls) = H ≤ r

low_then : (H r : ℕ) (l m : SpineNode) (ls : List SpineNode) → H ≤ r → Low (run_role m) H r (l ∷ ls)
unfolding run_role
low_then H r l (hangs k left none) ls h = h
low_then H r l (hangs k left (node i b c)) ls h = h
low_then H r l (hangs k right S) ls h = h

low_run : (a : Side) (o : Role) (H r : ℕ) (ls : List SpineNode) → is_switch o ≡ false → H ≤ r → Low (role_next a o ls) H r ls
unfolding role_next role_after
low_run a o H r [] i h = tt
low_run a knee H r (l ∷ ls) i h = low_then H r l (seen a l) ls h
low_run a ordinary H r (l ∷ ls) i h = low_then H r l (seen a l) ls h
low_run a switch H r (l ∷ ls) i h = absurd (subst T i tt)

low_over : (a : Side) (H r : ℕ) (ls : List SpineNode) → Low (role_next a switch ls) H r ls
unfolding role_next role_after
low_over a H r [] = tt
low_over a H r (l ∷ ls) = tt

bottom_low : (a : Side) (o : Role) (H r p : ℕ) (ls : List SpineNode) → Low o H r ls → H + 1 ≤ bottom a o H r p ls
unfolding bottom
bottom_low a o H r p [] h = omega arith
bottom_low a knee H r p (hangs k s S ∷ ls) h =
    go (far a s) refl
    (bottom_low a _ (max H r + height_on a S) (max H r + height_on a S + 1) (height_on a none) ls (low_run a knee _ _ ls refl (omega arith)))
    (bottom_low a _ (max H r) (max H r + 1) (height_on a S) ls (low_run a knee _ _ ls refl (omega arith)))
  where
    go : (b : Bool) → far a s ≡ b →
        max H r + height_on a S + 1 ≤ bottom a (role_next a knee ls) (max H r + height_on a S) (max H r + height_on a S + 1) (height_on a none) ls →
        max H r + 1 ≤ bottom a (role_next a knee ls) (max H r) (max H r + 1) (height_on a S) ls → H + 1 ≤ bottom a knee H r p (hangs k s S ∷ ls)
    go true e i j = omega (arith, bottom_far a s H r p k S ls e)
    go false e i j = omega (arith, bottom_near a s H r p k S ls e)
bottom_low a ordinary H r p (hangs k s S ∷ ls) h =
    omega (arith, bottom_low a _ (r + height_on a S) (r + max 1 (height_on a S)) p ls (low_run a ordinary _ _ ls refl (omega arith)))
bottom_low a switch H r p (hangs k s S ∷ ls) h = omega (arith, bottom_low (opposite a) _ (r + height_on a S + p) (r + 1) 0 ls (low_over (opposite a) _ _ ls))

-- ---- drawing can go on

pub along_role : {roles widest : List ℕ} {a s : Side} {o : Role} {k : ℕ} {S : Tree} {ls : List SpineNode} → Along roles widest a o (hangs k s S ∷ ls) →
    get_or roles k 0 ≡ code_of a o
along_role (onward c q n) = c

pub along_hung : {roles widest : List ℕ} {a s : Side} {o : Role} {k : ℕ} {S : Tree} {ls : List SpineNode} → Along roles widest a o (hangs k s S ∷ ls) →
    Prepared roles widest a S
along_hung (onward c q n) = q

pub along_next : {roles widest : List ℕ} {a s : Side} {o : Role} {k : ℕ} {S : Tree} {ls : List SpineNode} → Along roles widest a o (hangs k s S ∷ ls) →
    Along roles widest (hand_after o a) (role_next (hand_after o a) o ls) ls
along_next (onward c q n) = n

module _ {B W : ℕ} {a s : Side} {e f k : ℕ} {S : Tree} {ls : List SpineNode} where
  pub at_knee_room : Rooms B W a e f knee (hangs k s S ∷ ls) → Inside B a e (1 + width_on a S)
  at_knee_room (knee_room i n) = i

  pub after_knee_room : Rooms B W a e f knee (hangs k s S ∷ ls) → Rooms B W a e f (role_next a knee ls) ls
  after_knee_room (knee_room i n) = n

  pub at_ordinary_room : Rooms B W a e f ordinary (hangs k s S ∷ ls) → Inside B a e (2 + width_on a S)
  at_ordinary_room (ordinary_room i n) = i

  pub after_ordinary_room : Rooms B W a e f ordinary (hangs k s S ∷ ls) → Rooms B W a e f (role_next a ordinary ls) ls
  after_ordinary_room (ordinary_room i n) = n

  pub goes_on : Rooms B W a e f switch (hangs k s S ∷ ls) → GoesOn ls
  goes_on (switch_room g w i x n) = g

  pub at_switch_width : Rooms B W a e f switch (hangs k s S ∷ ls) → width_on a S ≤ W
  at_switch_width (switch_room g w i x n) = w

  pub at_switch_room : Rooms B W a e f switch (hangs k s S ∷ ls) → Inside B a e (W + 3)
  at_switch_room (switch_room g w i x n) = i

  pub after_switch_room : Rooms B W a e f switch (hangs k s S ∷ ls) → Rooms B W (opposite a) f e (role_next (opposite a) switch ls) ls
  after_switch_room (switch_room g w i x n) = n

module _ (roles widest : List ℕ) (W : ℕ) (a : Side) (e H r k : ℕ) (s : Side) (S Q : Tree) (ls : List SpineNode) where
  pub ready_far : far a s ≡ true → Ready roles widest W a e knee H r Q (hangs k s S ∷ ls) →
      Ready roles widest W a e (role_next a knee ls) (max H r + height_on a S) (max H r + height_on a S + 1) none ls
  unfolding hand_after
  ready_far h g = record {
    prepared = no_spine;
    along = along_next g.along;
    spare = inside_less 65536 a e (omega (arith, width_none a)) (at_knee_room g.rooms);
    rooms = after_knee_room g.rooms;
    rows = omega (arith, g.rows, bottom_far a s H r (height_on a Q) k S ls h);
  }

  pub ready_near : far a s ≡ false → Ready roles widest W a e knee H r Q (hangs k s S ∷ ls) →
      Ready roles widest W a e (role_next a knee ls) (max H r) (max H r + 1) S ls
  unfolding hand_after
  ready_near h g = record {
    prepared = along_hung g.along;
    along = along_next g.along;
    spare = at_knee_room g.rooms;
    rooms = after_knee_room g.rooms;
    rows = omega (arith, g.rows, bottom_near a s H r (height_on a Q) k S ls h);
  }

  pub ready_ordinary : Ready roles widest W a e ordinary H r Q (hangs k s S ∷ ls) →
      Ready roles widest W a e (role_next a ordinary ls) (r + height_on a S) (r + max 1 (height_on a S)) Q ls
  unfolding hand_after bottom
  ready_ordinary g = record { prepared = g.prepared; along = along_next g.along; spare = g.spare; rooms = after_ordinary_room g.rooms; rows = g.rows }

  pub ready_switch : Ready roles widest W a e switch H r Q (hangs k s S ∷ ls) →
      Ready roles widest W (opposite a) (inwards a e (W + 2)) (role_next (opposite a) switch ls) (r + height_on a S + height_on a Q) (r + 1) none ls
  unfolding hand_after
  ready_switch g = record {
    prepared = no_spine;
    along = along_next g.along;
    spare = inside_less 65536 (opposite a) _ (omega (arith, width_none (opposite a)))
        (over_edge a e (W + 2) (inside_less 65536 a e (omega arith) (at_switch_room g.rooms)));
    rooms = rw (over_back a e (W + 2) (inside_less 65536 a e (omega arith) (at_switch_room g.rooms))) (after_switch_room g.rooms);
    rows = omega (arith, g.rows, bottom_over a s H r (height_on a Q) k S ls);
  }

  -- The rows of what is drawn at a node are above those below it.
  pub rows_far : far a s ≡ true → Ready roles widest W a e knee H r Q (hangs k s S ∷ ls) → max H r + height_on a S + 1 ≤ 65536
  rows_far h g = omega (
    arith,
    (ready_far h g).rows,
    bottom_low a _ (max H r + height_on a S) (max H r + height_on a S + 1) (height_on a none) ls (low_run a knee _ _ ls refl (omega arith)),
  )

  pub rows_near : far a s ≡ false → Ready roles widest W a e knee H r Q (hangs k s S ∷ ls) → max H r + 1 ≤ 65536
  rows_near h g = omega (arith, (ready_near h g).rows, bottom_low a _ (max H r) (max H r + 1) (height_on a S) ls (low_run a knee _ _ ls refl (omega arith)))

  pub rows_knee : Ready roles widest W a e knee H r Q (hangs k s S ∷ ls) → max H r + 1 ≤ 65536
  rows_knee g = go (far a s) refl
    where
      go : (b : Bool) → far a s ≡ b → max H r + 1 ≤ 65536
      go true h = omega (arith, rows_far h g)
      go false h = rows_near h g

  pub rows_ordinary : Ready roles widest W a e ordinary H r Q (hangs k s S ∷ ls) → r + height_on a S + 1 ≤ 65536
  rows_ordinary g = omega (
    arith,
    (ready_ordinary g).rows,
    bottom_low a _ (r + height_on a S) (r + max 1 (height_on a S)) (height_on a Q) ls (low_run a ordinary _ _ ls refl (omega arith)),
  )

  pub rows_switch : Ready roles widest W a e switch H r Q (hangs k s S ∷ ls) → r + height_on a S + height_on a Q + 1 ≤ 65536
  rows_switch g = omega (
    arith,
    (ready_switch g).rows,
    bottom_low (opposite a) _ (r + height_on a S + height_on a Q) (r + 1) (height_on (opposite a) none) ls (low_over (opposite a) _ _ ls),
  )
