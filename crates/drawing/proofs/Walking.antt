-- A walk goes one node further: a lemma for each role, from the fork of its node, with what the drawing of the hung subtrees asks. Rests on Onward.
use mathlib.Core.Path.{◌≡◌, refl, ap, ap₂, sym, subst, subst₂, ◌∙◌}
use mathlib.Core.Bool.{true, false}
use mathlib.Core.Logic.{inl, inr, ⊎_elim}
use mathlib.Core.List.{List, ◌∷◌}
use Prim.Native.Nat.{ℕ, ◌+◌, ◌*◌, ◌-◌, ◌≤◌, ◌<◌, max}
use native.Mathlib.Omega.{arith}
use lib.ListN.{length, get_or}
use Rattle.table.specs.Lists.{count}
use Rattle.table.specs.Table.{Side, records, left_of, right_of, Chained}
use Rattle.table.specs.Tree.{Tree, none, node, size, nodes, tree_at}
use Rattle.table.specs.Refusal.{fault}
use Rattle.table.proofs.Lists.{same}
use Rattle.table.proofs.Accepted.{tree_none, tree_unfolds, records_bounds, chain_within}
use Rattle.layout.specs.Spine.{SpineNode, hangs, Role, knee, ordinary, switch, opposite, hand_after}
use Rattle.placements.specs.Placements.{with_point}
use Rattle.layout.specs.inner.Held.{inwards, hung_on, height_on, spine_on, role_next, far, bottom, Inside, GoesOn}
use Rattle.layout.proofs.Spines.{over, spine_tree, spine_either, tree_spine, count_over}
use Rattle.layout.proofs.Held.{inside_less}
use Rattle.roles.specs.inner.Sized.{Named}
use Rattle.roles.specs.Chosen.{side_of, code_of}
use Rattle.roles.specs.inner.Forked.{Forked}
use Rattle.roles.specs.declared.sides.Side.{Side as CodeSide}
use Rattle.roles.specs.inner.Prepared.{Along}
use Rattle.roles.specs.declared.role.Role.{Role as Coded}
use Rattle.roles.specs.inner.Roles.{is_switch, is_knee, hand_of, role_of}
use Rattle.roles.proofs.Choices.{code_same, code_small}
use Rattle.drawing.specs.Answer.{store}
use Rattle.drawing.specs.declared.place.Walk.{Walk}
use Rattle.drawing.specs.inner.Placing.{Drawable, SubtreeDrawn, finished, Ready, walk_to, hand_at, Going, Stepped}
use Rattle.drawing.proofs.Shapes.{Disjoint}
use Rattle.drawing.proofs.Columns.{inside_edge, inside_count}
use Rattle.drawing.proofs.Onward.{knee_far, knee_near, ordinary_on, switch_over, bottom_far, bottom_near, bottom_over}
use Rattle.drawing.proofs.Onward.{along_role, along_hung, along_next, goes_on, at_knee_room, at_ordinary_room, at_switch_width, at_switch_room}
use Rattle.drawing.proofs.Onward.{ready_far, ready_near, ready_ordinary, ready_switch, rows_far, rows_knee, rows_ordinary, rows_switch}

-- A record has its place in the placements.
pub entry_within : (t p : List ℕ) → fault t ≡ 0 → 2 * records t ≤ length p → (k : ℕ) → Named t k → 2 * k + 1 < length p
entry_within t p ok enough k (inl e) = omega (arith, records_bounds t ok)
entry_within t p ok enough k (inr c) = omega (arith, chain_within t ok k c)

pub drawable_as : (t roles widest : List ℕ) (s : Side) (k e c top top' : ℕ) → top' ≡ top → Drawable t roles widest s k e c top →
    Drawable t roles widest s k e c top'
drawable_as t roles widest s k e c top top' q h = subst (Drawable t roles widest s k e c) (sym q) h

-- ---- roles as the code reads them

-- The role that is kept for the first node of what is left of a spine.
pub first_role : (t roles widest : List ℕ) → fault t ≡ 0 → (s a : Side) (o : Role) (k : ℕ) → Chained t k → Along roles widest a o (spine_on s (tree_at t k)) →
    get_or roles k 0 ≡ code_of a o
first_role t roles widest ok s a o k c l = ⊎_elim (λ e. along_role (first e.1)) (λ e. along_role (first e.1)) (spine_either s k _ _)
  where
    first : {ls : List SpineNode} → spine_on s (node k (tree_at t (left_of t k)) (tree_at t (right_of t k))) ≡ ls → Along roles widest a o ls
    first e = subst (Along roles widest a o) (ap (spine_on s) (tree_unfolds t ok k c) ∙ e) l

some_spine : (t : List ℕ) (s : Side) (k : ℕ) → Named t k → GoesOn (spine_on s (tree_at t k)) → Chained t k
unfolding spine_on
some_spine t s k (inl e) g = absurd (subst GoesOn (ap (spine_on s) (ap (tree_at t) e ∙ tree_none t)) g)
some_spine t s k (inr c) g = c

pub knee_is : (o : Role) → is_knee o ≡ true → o ≡ knee
knee_is knee e = refl
knee_is ordinary e = cc
knee_is switch e = cc

pub ordinary_is : (o : Role) → is_knee o ≡ false → is_switch o ≡ false → o ≡ ordinary
ordinary_is knee e f = cc
ordinary_is ordinary e f = refl
ordinary_is switch e f = cc

module _ (t roles widest : List ℕ) (w : Walk) (spine hung : ℕ) (h : Side) (f : Forked t (side_of w.side) w.at spine hung h) where
  abbrev s : Side
  s = side_of w.side

  abbrev a : Side
  a = hand_at w

  abbrev S : Tree
  S = tree_at t hung

  abbrev Q : Tree
  Q = tree_at t w.pending

  abbrev R : Tree
  R = tree_at t spine

  abbrev H : ℕ
  H = max w.lowest w.row

  tree_here : tree_at t w.at ≡ over (hangs w.at h S) R
  unfolding spine_tree
  tree_here = sym (tree_spine s (tree_at t w.at)) ∙ (ap spine_tree f.forks ∙ ap (over (hangs w.at h S)) (tree_spine s R))

  counts : (k : ℕ) → count k (nodes (tree_at t w.at)) ≡ same k w.at + (count k (nodes S) + count k (nodes R))
  counts k = ap (λ (T : Tree). count k (nodes T)) tree_here ∙ count_over k w.at h S R

  here : (o : Role) → Going t roles widest o w → Ready roles widest w.widest a w.edge o w.lowest w.row Q (hangs w.at h S ∷ spine_on s R)
  here o g = subst (Ready roles widest w.widest a w.edge o w.lowest w.row Q) f.forks g.ready

  apart : (o : Role) → Going t roles widest o w → Disjoint S (spine_tree (spine_on s R))
  apart o g = rw (tree_spine s R) (λ k. omega (arith, g.once k, counts k))

  apart_pending : (o : Role) → Going t roles widest o w → Disjoint Q (spine_tree (spine_on s R))
  apart_pending o g = rw (tree_spine s R) (λ k. omega (arith, g.once k, counts k))

  -- The role that is kept for the node is the walk's.
  kept_role : (o : Role) → Going t roles widest o w → get_or roles w.at 0 ≡ code_of a o
  kept_role o g = along_role (here o g).along

  role_is : (c : Coded) (q o : Role) → get_or roles w.at 0 ≡ code_of (hand_of c) (role_of c) → role_of c ≡ q → Going t roles widest o w → o ≡ q
  role_is c q o e f g = (code_same a (hand_of c) o (role_of c) (sym (kept_role o g) ∙ e)).1 ∙ f

  pub role_below : (o : Role) → Going t roles widest o w → get_or roles w.at 0 < 6
  role_below o g = omega (arith, kept_role o g, code_small a o)

  -- A switch is followed by a node of the other hand.
  next_chained : Going t roles widest switch w → Chained t spine
  next_chained g = some_spine t s spine f.named_spine (goes_on (here switch g).rooms)

  pub next_role : fault t ≡ 0 → Going t roles widest switch w → get_or roles spine 0 ≡ code_of (opposite a) (role_next (opposite a) switch (spine_on s R))
  unfolding hand_after
  next_role ok g = first_role t roles widest ok s (opposite a) _ spine (next_chained g) (along_next (here switch g).along)

  pub next_below : fault t ≡ 0 → Going t roles widest switch w → get_or roles spine 0 < 6
  next_below ok g = omega (arith, next_role ok g, code_small (opposite a) (role_next (opposite a) switch (spine_on s R)))

  pub going_as : (c : Coded) (q : Role) → get_or roles w.at 0 ≡ code_of (hand_of c) (role_of c) → role_of c ≡ q → (o : Role) × Going t roles widest o w →
      Going t roles widest q w
  going_as c q e f g = subst (λ (r : Role). Going t roles widest r w) (role_is c q g.0 e f g.1) g.1

  pub stepped_for : (c : Coded) (q : Role) → get_or roles w.at 0 ≡ code_of (hand_of c) (role_of c) → role_of c ≡ q → (p : List ℕ) (w' : Walk) (p' : List ℕ) →
      Stepped t roles widest q w p w' p' →
      (o : Role) → Going t roles widest o w → Stepped t roles widest o w p w' p'
  stepped_for c q e f p w' p' d o g = subst (λ (r : Role). Stepped t roles widest r w p w' p') (sym (role_is c q o e f g)) d

  -- From what is left at the next node, with Z pending.
  went : (o o' : Role) (row lowest pending : ℕ) (b : CodeSide) (edge : ℕ) (p p' : List ℕ) (Z : Tree) → tree_at t pending ≡ Z → Named t pending →
      ((k : ℕ) → count k (nodes Z) + count k (nodes R) ≤ 1) → size Z ≤ size S + size Q →
      Ready roles widest w.widest (side_of b) edge o' lowest row Z (spine_on s R) →
      finished w.widest (side_of b) edge o' lowest row Z (spine_on s R) p' ≡
      finished w.widest a w.edge o w.lowest w.row Q (hangs w.at h S ∷ spine_on s R) p →
      bottom (side_of b) o' lowest row (height_on (side_of b) Z) (spine_on s R) ≡ bottom a o w.lowest w.row (height_on a Q) (hangs w.at h S ∷ spine_on s R) →
      Stepped t roles widest o w p (walk_to w spine row lowest pending b edge) p'
  went o o' row lowest pending b edge p p' Z e n c z r q d = record {
    role = o';
    going = record { named = f.named_spine; named_pending = n; once = rw e c; ready = rw e r };
    same = rw e (q ∙ ap (λ (ls : List SpineNode). finished w.widest a w.edge o w.lowest w.row Q ls p) (sym f.forks));
    as_deep = rw e (d ∙ ap (bottom a o w.lowest w.row (height_on a Q)) (sym f.forks));
    fewer = omega (arith, f.sizes, ap size e);
    shorter = omega (arith, f.sizes);
  }

  once_none : (o : Role) → Going t roles widest o w → (k : ℕ) → count k (nodes none) + count k (nodes R) ≤ 1
  unfolding nodes count
  once_none o g k = omega (arith, g.once k, counts k)

  none_less : size none ≤ size S + size Q
  unfolding size
  none_less = omega arith

  -- A knee, its child hung on the far side.
  pub stepped_far : (p : List ℕ) → far a h ≡ true → Going t roles widest knee w →
      Stepped t roles widest knee w p (walk_to w spine (H + height_on a S + 1) (H + height_on a S) 0 w.hand w.edge)
      (store (hung_on a (inwards a w.edge 1) (H + 1) S) (with_point w.at w.edge w.row p))
  stepped_far p e g = went knee _ _ _ 0 w.hand w.edge p _ none (tree_none t) (inl refl) (once_none knee g) none_less
      (ready_far roles widest w.widest a w.edge _ _ w.at h S Q _ e (here knee g))
      (knee_far w.widest a w.edge _ _ w.at h S Q _ p (apart knee g) e) (bottom_far a h _ _ _ w.at S _ e)

  -- A knee, its child on the near side: pending.
  pub stepped_near : (p : List ℕ) → far a h ≡ false → Going t roles widest knee w →
      Stepped t roles widest knee w p (walk_to w spine (H + 1) H hung w.hand w.edge) (with_point w.at w.edge w.row p)
  stepped_near p e g = went knee _ _ _ hung w.hand w.edge p _ S refl f.named_hung (λ k. omega (arith, g.once k, counts k)) (omega arith)
      (ready_near roles widest w.widest a w.edge _ _ w.at h S Q _ e (here knee g))
      (knee_near w.widest a w.edge _ _ w.at h S Q _ p (apart knee g) e) (bottom_near a h _ _ _ w.at S _ e)

  pub stepped_ordinary : (p : List ℕ) → Going t roles widest ordinary w →
      Stepped t roles widest ordinary w p (walk_to w spine (w.row + max 1 (height_on a S)) (w.row + height_on a S) w.pending w.hand w.edge)
      (store (hung_on a (inwards a w.edge 2) (w.row + 1) S) (with_point w.at (inwards a w.edge 1) w.row p))
  unfolding bottom
  stepped_ordinary p g = went ordinary _ _ _ w.pending w.hand w.edge p _ Q refl g.named_pending (λ k. omega (arith, g.once k, counts k))
      (omega arith)
      (ready_ordinary roles widest w.widest a w.edge _ _ w.at h S Q _ (here ordinary g))
      (ordinary_on w.widest a w.edge _ _ w.at h S Q _ p (apart ordinary g)) refl

  pub stepped_switch : (p : List ℕ) (b : CodeSide) → side_of b ≡ opposite a → Going t roles widest switch w →
      Stepped t roles widest switch w p (walk_to w spine (w.row + 1) (w.row + height_on a S + height_on a Q) 0 b (inwards a w.edge (w.widest + 2)))
      (store (hung_on a (inwards a w.edge 1) (w.row + height_on a S + 1) Q)
      (store (hung_on a (inwards a w.edge 1) (w.row + 1) S) (with_point w.at (inwards a w.edge 1) w.row p)))
  stepped_switch p b e g = went switch (role_next (opposite a) switch (spine_on s R)) _ _ 0 b _ p _ none (tree_none t) (inl refl) (once_none switch g) none_less
      (rw e (ready_switch roles widest w.widest a w.edge _ _ w.at h S Q _ (here switch g)))
      (rw e (switch_over w.widest a w.edge _ _ w.at h S Q _ p (apart switch g) (at_switch_room (here switch g).rooms) (apart_pending switch g)))
      (rw e (bottom_over a h _ _ _ w.at S _))

  -- ---- what is asked on the way

  pub edge_knee : Going t roles widest knee w → (w.edge < 65536) × (H + 1 ≤ 65536)
  edge_knee g = (
    inside_edge a w.edge _ (inside_less 65536 a w.edge {v = 1} (omega arith) (at_knee_room (here knee g).rooms)),
    rows_knee roles widest w.widest a w.edge _ _ w.at h S Q _ (here knee g),
  )

  pub drawable_far : far a h ≡ true → Going t roles widest knee w → Drawable t roles widest a hung w.edge 1 (H + 1)
  drawable_far e g = record {
    named = f.named_hung;
    prepared = along_hung (here knee g).along;
    columns = at_knee_room (here knee g).rooms;
    rows = omega (arith, rows_far roles widest w.widest a w.edge _ _ w.at h S Q _ e (here knee g));
  }

  pub column_ordinary : Going t roles widest ordinary w → Inside 65536 a w.edge (1 + 1)
  column_ordinary g = inside_less 65536 a w.edge (omega arith) (at_ordinary_room (here ordinary g).rooms)

  pub rows_at_ordinary : Going t roles widest ordinary w → w.row + height_on a S + 1 ≤ 65536
  rows_at_ordinary g = rows_ordinary roles widest w.widest a w.edge _ _ w.at h S Q _ (here ordinary g)

  pub drawable_ordinary : Going t roles widest ordinary w → Drawable t roles widest a hung w.edge 2 (w.row + 1)
  drawable_ordinary g = record {
    named = f.named_hung;
    prepared = along_hung (here ordinary g).along;
    columns = at_ordinary_room (here ordinary g).rooms;
    rows = omega (arith, rows_at_ordinary g);
  }

  pub column_switch : Going t roles widest switch w → (k : ℕ) → k ≤ w.widest + 2 → Inside 65536 a w.edge (k + 1)
  column_switch g k l = inside_less 65536 a w.edge (omega arith) (at_switch_room (here switch g).rooms)

  pub widest_at_switch : Going t roles widest switch w → w.widest + 2 + 1 ≤ 65536
  widest_at_switch g = inside_count a w.edge _ (column_switch g (w.widest + 2) (omega arith))

  pub rows_at_switch : Going t roles widest switch w → w.row + height_on a S + height_on a Q + 1 ≤ 65536
  rows_at_switch g = rows_switch roles widest w.widest a w.edge _ _ w.at h S Q _ (here switch g)

  pub drawable_switch : Going t roles widest switch w → Drawable t roles widest a hung w.edge 1 (w.row + 1)
  drawable_switch g = record {
    named = f.named_hung;
    prepared = along_hung (here switch g).along;
    columns = inside_less 65536 a w.edge (omega (arith, at_switch_width (here switch g).rooms)) (at_switch_room (here switch g).rooms);
    rows = omega (arith, rows_at_switch g);
  }

  pub drawable_pending : Going t roles widest switch w → Drawable t roles widest a w.pending w.edge 1 (w.row + 1 + height_on a S)
  drawable_pending g = record { named = g.named_pending; prepared = g.ready.prepared; columns = g.ready.spare; rows = omega (arith, rows_at_switch g) }

  -- ---- what the code leaves

  stepped_as : (o : Role) (p : List ℕ) (w₁ w₂ : Walk) (p₁ p₂ : List ℕ) → w₂ ≡ w₁ → p₂ ≡ p₁ → Stepped t roles widest o w p w₁ p₁ →
      Stepped t roles widest o w p w₂ p₂
  stepped_as o p w₁ w₂ p₁ p₂ d e m = subst₂ (Stepped t roles widest o w p) (sym d) (sym e) m

  pub after_far : (p p₁ p₂ : List ℕ) (low below : ℕ) (w' : Walk) → low ≡ H → p₁ ≡ with_point w.at w.edge w.row p →
      SubtreeDrawn t a hung (inwards a w.edge 1) (low + 1) p₁ below p₂ →
      w' ≡ walk_to w spine below (below - 1) 0 w.hand w.edge → far a h ≡ true → Going t roles widest knee w → Stepped t roles widest knee w p w' p₂
  after_far p p₁ p₂ low below w' l q d v x g =
      stepped_as knee p _ _ _ _ (v ∙ ap₂ (λ (m n : ℕ). walk_to w spine m n 0 w.hand w.edge) (omega (arith, d.ends)) (omega (arith, d.ends)))
      (d.stored ∙ cc) (stepped_far p x g)

  pub after_near : (p p₁ : List ℕ) (low : ℕ) (w' : Walk) → low ≡ H → p₁ ≡ with_point w.at w.edge w.row p →
      w' ≡ walk_to w spine (low + 1) low hung w.hand w.edge →
      far a h ≡ false → Going t roles widest knee w → Stepped t roles widest knee w p w' p₁
  after_near p p₁ low w' l q v x g = stepped_as knee p _ _ _ _ (v ∙ ap (λ (m : ℕ). walk_to w spine (m + 1) m hung w.hand w.edge) l) q (stepped_near p x g)

  pub after_ordinary : (p p₁ p₂ : List ℕ) (column below next : ℕ) (w' : Walk) → column ≡ inwards a w.edge 1 → p₁ ≡ with_point w.at column w.row p →
      SubtreeDrawn t a hung (inwards a w.edge 2) (w.row + 1) p₁ below p₂ → next ≡ max (w.row + 1) (below - 1) →
      w' ≡ walk_to w spine next (below - 1) w.pending w.hand w.edge →
      Going t roles widest ordinary w → Stepped t roles widest ordinary w p w' p₂
  after_ordinary p p₁ p₂ column below next w' c q d n v g =
      stepped_as ordinary p _ _ _ _ (v ∙ ap₂ (λ (m n : ℕ). walk_to w spine m n w.pending w.hand w.edge) (omega (arith, d.ends))
      (omega (arith, d.ends)))
      (d.stored ∙ cc) (stepped_ordinary p g)

  pub after_switch : (p p₁ p₂ p₃ : List ℕ) (column under below other : ℕ) (b : CodeSide) → column ≡ inwards a w.edge 1 →
      p₁ ≡ with_point w.at column w.row p → SubtreeDrawn t a hung (inwards a w.edge 1) (w.row + 1) p₁ under p₂ →
      SubtreeDrawn t a w.pending (inwards a w.edge 1) under p₂ below p₃ → other ≡ inwards a w.edge (w.widest + 2) → side_of b ≡ opposite a →
      Going t roles widest switch w →
      Stepped t roles widest switch w p (walk_to w spine (w.row + 1) (below - 1) 0 b other) p₃
  after_switch p p₁ p₂ p₃ column under below other b c q d d' o e g =
      stepped_as switch p _ _ _ _ (ap₂ (λ (m n : ℕ). walk_to w spine (w.row + 1) m 0 b n) (omega (arith, d.ends, d'.ends)) o)
      (d'.stored ∙ cc (under_there)) (stepped_switch p b e g)
    where
      under_there : under ≡ w.row + height_on a S + 1
      under_there = omega (arith, d.ends)
