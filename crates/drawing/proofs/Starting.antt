-- The two ends of a spine: the walk at its first node, a knee, where all of it is left; and where it has ended, and only the pending child is left.
use mathlib.Core.Path.{◌≡◌, refl, ap, sym, subst, ◌∙◌}
use mathlib.Core.Logic.{inl}
use mathlib.Core.List.{List, []}
use Prim.Native.Nat.{ℕ, ◌+◌, ◌≤◌, ◌<◌}
use native.Mathlib.Omega.{arith}
use lib.ListN.{length, get_or}
use Rattle.table.specs.Lists.{count}
use Rattle.table.specs.Table.{Side, left_of, right_of, Chained}
use Rattle.table.specs.Tree.{Tree, none, node, size, nodes, tree_at}
use Rattle.table.specs.Refusal.{fault}
use Rattle.table.proofs.Accepted.{tree_none, tree_unfolds}
use Rattle.layout.specs.Layout.{Layout}
use Rattle.layout.specs.Spine.{SpineNode, Role, knee, facing}
use Rattle.layout.specs.Drawing.{draw}
use Rattle.layout.specs.inner.Held.{inwards, hung_on, height_on, width_on, widest_on, spine_on, lay, bottom, Inside}
use Rattle.layout.proofs.Sides.{hung_none, height_none, width_none}
use Rattle.layout.proofs.Held.{inside_less, hung_inside, rooms_law, inside_fits, hung_law, bottom_law, frame_from}
use Rattle.roles.specs.inner.Sized.{Named}
use Rattle.roles.specs.Chosen.{side_of, code_of}
use Rattle.roles.specs.declared.sides.Side.{Side as CodeSide}
use Rattle.roles.specs.inner.Prepared.{Prepared, Along, no_spine, a_spine}
use Rattle.roles.proofs.Choices.{code_small}
use Rattle.roles.proofs.Spines.{chained}
use Rattle.roles.proofs.Frames.{once}
use Rattle.drawing.specs.Answer.{store}
use Rattle.drawing.specs.declared.place.Walk.{Walk}
use Rattle.drawing.specs.inner.Placing.{Drawable, SubtreeDrawn, kept, finish, finished, hand_at, spine_from, Going, unplaced, Stepped, row_below, remaining}
use Rattle.drawing.proofs.Shapes.{width_node}
use Rattle.drawing.proofs.Columns.{side_same}
use Rattle.drawing.proofs.Onward.{finished_none}
use Rattle.drawing.proofs.Walking.{first_role}

-- ---- nodes and no nodes

pub named_node : (t : List ℕ) (k : ℕ) → Named t k → 0 < k → Chained t k
named_node t k n h = chained t k n (λ e. omega arith)

some_node : (t : List ℕ) → fault t ≡ 0 → (k : ℕ) → Chained t k → 0 < size (tree_at t k)
unfolding size
some_node t ok k c = omega (arith, ap size (tree_unfolds t ok k c))

pub no_subtree : (t : List ℕ) (s : Side) (k e top : ℕ) (p : List ℕ) → k ≡ 0 → SubtreeDrawn t s k e top p top p
unfolding store
no_subtree t s k e top p z = record {
  ends = omega (arith, ap (height_on s) nothing, height_none s);
  stored = sym (ap (λ (T : Tree). store (hung_on s e top T) p) nothing ∙ ap (λ (L : Layout). store L p) (hung_none s e top));
}
  where
    nothing : tree_at t k ≡ none
    nothing = ap (tree_at t) z ∙ tree_none t

-- ---- code has the side as a bool

-- A node's drawing has a column, where its edge is.
pub column_drawn : (t roles widest : List ℕ) (s : Side) (k e c top : ℕ) → fault t ≡ 0 → 0 < k → Drawable t roles widest s k e c top → Inside 65536 s e (c + 1)
column_drawn t roles widest s k e c top ok h g =
    inside_less 65536 s e (omega (arith, width_node s (tree_at t k) (some_node t ok k (named_node t k g.named h)))) g.columns

pub drawable_side : (t roles widest : List ℕ) (s : Side) (k e c top edge : ℕ) → edge ≡ inwards s e c →
    Drawable t roles widest s k e c top → Drawable t roles widest s k edge 0 top
drawable_side t roles widest s k e c top edge r h = record {
  named = h.named;
  prepared = h.prepared;
  columns = rw r (inside_less 65536 s _ (omega arith) (hung_inside 65536 s e c _ h.columns));
  rows = h.rows;
}

pub drawn_side : (t : List ℕ) (s : Side) (k e c top below edge : ℕ) (p p' : List ℕ) → edge ≡ inwards s e c →
    SubtreeDrawn t s k edge top p below p' → SubtreeDrawn t s k (inwards s e c) top p below p'
drawn_side t s k e c top below edge p p' r h = subst (λ (n : ℕ). SubtreeDrawn t s k n top p below p') r h

-- A drawing on the side of a hand, when the hand is known.
module _ {hand s : CodeSide} (e : hand ≡ s) where
  pub drawable_hand : {t roles widest : List ℕ} {k edge c top : ℕ} → Drawable t roles widest (side_of hand) k edge c top →
      Drawable t roles widest (side_of s) k edge c top
  drawable_hand {t} {roles} {widest} {k} {edge} {c} {top} d = subst (λ (h : CodeSide). Drawable t roles widest (side_of h) k edge c top) e d

  pub drawn_hand : {t p p' : List ℕ} {k edge top below : ℕ} → SubtreeDrawn t (side_of s) k edge top p below p' →
      SubtreeDrawn t (side_of hand) k edge top p below p'
  drawn_hand {t} {p} {p'} {k} {edge} {top} {below} d = subst (λ (h : CodeSide). SubtreeDrawn t (side_of h) k edge top p below p') (sym e) d

-- ---- the end

module _ (t roles widest : List ℕ) (w : Walk) (ended : w.at ≡ 0) where
  no_spine_left : spine_from t w ≡ []
  unfolding spine_on
  no_spine_left = ap (spine_on (side_of w.side)) (ap (tree_at t) ended ∙ tree_none t)

  pub bottom_end : (o : Role) → row_below t o w ≡ w.lowest + 1 + height_on (hand_at w) (tree_at t w.pending)
  unfolding bottom
  bottom_end o = ap (bottom (hand_at w) o w.lowest w.row (height_on (hand_at w) (tree_at t w.pending))) no_spine_left ∙ omega arith

  pub remaining_end : (o : Role) (p : List ℕ) →
      remaining t o w p ≡ store (hung_on (hand_at w) (inwards (hand_at w) w.edge 1) (w.lowest + 1) (tree_at t w.pending)) p
  unfolding finished finish kept lay store
  remaining_end o p = ap (λ (ls : List SpineNode). finished w.widest (hand_at w) w.edge o w.lowest w.row (tree_at t w.pending) ls p) no_spine_left

  pub drawable_end : (o : Role) → Going t roles widest o w → Drawable t roles widest (hand_at w) w.pending w.edge 1 (w.lowest + 1)
  drawable_end o g = record {
    named = g.named_pending;
    prepared = g.ready.prepared;
    columns = g.ready.spare;
    rows = omega (arith, g.ready.rows, bottom_end o);
  }

-- ---- the start

-- What is measured of a node: W of its spine, and the roles along it.
spine_widest : {roles widest : List ℕ} {s : Side} {k : ℕ} {a b : Tree} → Prepared roles widest s (node k a b) → get_or widest k 0 ≡ widest_on s (node k a b)
spine_widest (a_spine e l) = e

spine_along : {roles widest : List ℕ} {s : Side} {k : ℕ} {a b : Tree} → Prepared roles widest s (node k a b) →
    Along roles widest s knee (spine_on s (node k a b))
spine_along (a_spine e l) = l

module _ (t roles widest : List ℕ) (ok : fault t ≡ 0) (b : CodeSide) (root edge top : ℕ) (g : Drawable t roles widest (side_of b) root edge 0 top)
    (node-there : 0 < root) (W : ℕ) (at_root : W ≡ get_or widest root 0) where
  abbrev s : Side
  s = side_of b

  -- The walk at the first node, a knee of the hand r.
  abbrev pub start : CodeSide → Walk
  start r = record { at = root; row = top; lowest = top; pending = 0; hand = r; edge = edge; widest = W; side = b }

  root_chained : Chained t root
  root_chained = named_node t root g.named node-there

  tree : tree_at t root ≡ node root (tree_at t (left_of t root)) (tree_at t (right_of t root))
  tree = tree_unfolds t ok root root_chained

  some : 0 < size (tree_at t root)
  some = some_node t ok root root_chained

  widest_law : W ≡ widest_on s (tree_at t root)
  widest_law = at_root ∙ rw tree (spine_widest (rw tree at g.prepared))

  inside : Inside 65536 s edge (width_on s (tree_at t root))
  inside = inside_less 65536 s edge (omega arith) g.columns

  along : Along roles widest s knee (spine_on s (tree_at t root))
  along = rw tree (spine_along (rw tree at g.prepared))

  root_role : get_or roles root 0 ≡ code_of s knee
  root_role = first_role t roles widest ok s s knee root root_chained along

  pub root_below : get_or roles root 0 < 6
  root_below = omega (arith, root_role, code_small s knee)

  -- Its role is kept, and so its hand is the drawing's side.
  hand_start : (r : CodeSide) → ((a : Side) (o : Role) → get_or roles root 0 ≡ code_of a o → side_of r ≡ a) → b ≡ r
  hand_start r h = side_same b r (sym (h s knee root_role))

  going_here : Going t roles widest knee (start b)
  unfolding nodes count
  going_here = record {
    named = g.named;
    named_pending = inl refl;
    once = λ i. rw (tree_none t) (omega (arith, once t ok root g.named i));
    ready = rw (tree_none t) (record {
      prepared = no_spine;
      along = along;
      spare = inside_less 65536 s edge (omega (arith, width_none s, width_node s (tree_at t root) some)) inside;
      rooms = rw widest_law (rooms_law 65536 s edge _ top (tree_at t root) (frame_from s edge _) inside);
      rows = rw (height_none s) (omega (arith, bottom_law s top (tree_at t root) some, g.rows));
    });
  }

  remaining_start : (p : List ℕ) → remaining t knee (start b) p ≡ store (hung_on s edge top (tree_at t root)) p
  unfolding width_on
  remaining_start p =
      let fits = inside_fits 65536 s edge (draw (facing s (tree_at t root))) inside in
      rw (tree_none t) (finished_none W s edge knee top top _ p ∙ ap (λ (L : Layout). store L p)
      (sym (hung_law s edge _ top (tree_at t root) (rw widest_law (frame_from s edge _)) fits)))

  bottom_start : row_below t knee (start b) ≡ top + height_on s (tree_at t root)
  bottom_start = rw (tree_none t, height_none s) (bottom_law s top (tree_at t root) some)

  module _ (r : CodeSide) (h : (a : Side) (o : Role) → get_or roles root 0 ≡ code_of a o → side_of r ≡ a) where
    pub going_start : Going t roles widest knee (start r)
    going_start = subst (λ (x : CodeSide). Going t roles widest knee (start x)) (hand_start r h) going_here

    pub drawn_start : (p p' : List ℕ) (below : ℕ) → (below ≡ row_below t knee (start r)) × (p' ≡ remaining t knee (start r) p) →
        SubtreeDrawn t s root edge top p below p'
    drawn_start p p' below e =
        let m = hand_start r h in
        record {
          ends = e.0 ∙ (ap (λ (x : CodeSide). row_below t knee (start x)) (sym m) ∙ bottom_start);
          stored = e.1 ∙ (ap (λ (x : CodeSide). remaining t knee (start x) p) (sym m) ∙ remaining_start p);
        }

-- ---- on the way

pub record SoFar (t roles widest : List ℕ) (p₀ : List ℕ) (w₀ : Walk) (p : List ℕ) (w : Walk) : Type 0 where
  pub role : Role
  pub going : Going t roles widest role w
  pub same : remaining t role w p ≡ remaining t knee w₀ p₀
  pub as_deep : row_below t role w ≡ row_below t knee w₀
  pub fewer : unplaced t w ≤ size (tree_at t w₀.at)
  pub one_less : size (tree_at t w.pending) < size (tree_at t w₀.at)
  pub kept : length p ≡ length p₀

module _ (t roles widest : List ℕ) where
  pub walked_start : fault t ≡ 0 → (p : List ℕ) (w : Walk) → Going t roles widest knee w → 0 < w.at → w.pending ≡ 0 → SoFar t roles widest p w p w
  unfolding size
  walked_start ok p w g h z =
      let none_there : size (tree_at t w.pending) ≡ 0 = ap (λ (k : ℕ). size (tree_at t k)) z ∙ ap size (tree_none t) in
      record {
        role = knee;
        going = g;
        same = refl;
        as_deep = refl;
        fewer = omega arith;
        one_less = omega (arith, some_node t ok w.at (named_node t w.at g.named h));
        kept = refl;
      }

  pub walked_on : (p₀ : List ℕ) (w₀ : Walk) (p : List ℕ) (w : Walk) (p' : List ℕ) (w' : Walk) → (g : SoFar t roles widest p₀ w₀ p w) →
      Stepped t roles widest g.role w p w' p' → length p' ≡ length p → SoFar t roles widest p₀ w₀ p' w'
  walked_on p₀ w₀ p w p' w' g d e = record {
    role = d.role;
    going = d.going;
    same = d.same ∙ g.same;
    as_deep = d.as_deep ∙ g.as_deep;
    fewer = omega (arith, g.fewer, d.fewer);
    one_less = omega (arith, g.fewer, d.fewer);
    kept = e ∙ g.kept;
  }

  pub walked_end : (p₀ : List ℕ) (w₀ : Walk) (p : List ℕ) (w : Walk) (p' : List ℕ) (below : ℕ) → (g : SoFar t roles widest p₀ w₀ p w) → w.at ≡ 0 →
      SubtreeDrawn t (hand_at w) w.pending (inwards (hand_at w) w.edge 1) (w.lowest + 1) p below p' →
      (below ≡ row_below t knee w₀) × (p' ≡ remaining t knee w₀ p₀)
  walked_end p₀ w₀ p w p' below g z d =
      (d.ends ∙ (sym (bottom_end t roles widest w z g.role) ∙ g.as_deep), d.stored ∙ (sym (remaining_end t roles widest w z g.role p) ∙ g.same))
