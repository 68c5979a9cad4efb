-- No shared rows (document 02, Paper 9): every spine of a drawing, the rows and the rectangle of a drawing, and what is promised of them. A plan gives each
-- record its point.
use Rattle.std.specs.Prelude.{◌≡◌, List, ◌∷◌, ℕ, ◌≤◌, T}
use Rattle.segment.specs.declared.Point.{Point}
use Rattle.table.specs.Lists.{member}
use Rattle.table.specs.Table.{Side}
use Rattle.table.specs.Tree.{Tree, nodes}
use Rattle.layout.specs.Spine.{Role, hangs, spine, Assigned, assigned, roles}

-- "A child off the spine is the root of a hung subtree": k is a node of the spine, and U hangs from it, as its hand sees it (none: nothing hangs there).
pub data Hangs (k : ℕ) (U : Tree) : List Assigned → Type 0 where
  here : {o : Role} {s : Side} {ls : List Assigned} → Hangs k U (assigned o (hangs k s U) ∷ ls)
  further : {l : Assigned} {ls : List Assigned} → Hangs k U ls → Hangs k U (l ∷ ls)

-- "every spine": in the drawing of a, S is drawn along a spine of its own. It is a, or hangs from the spine of such a tree and is "drawn by these same
-- steps"; on a right hand S is the mirror image, so that its spine is that of the "tree being drawn". Each node of a is on one of these spines
-- (`EveryNodeOnASpine`, promises).
pub data DrawnIn (a : Tree) : Tree → Type 0 where
  whole : DrawnIn a a
  hung : {S U : Tree} {k : ℕ} → DrawnIn a S → Hangs k U (roles (spine S)) → DrawnIn a U

-- k is a node of a spine of the drawing of a.
pub record OnSpine (a : Tree) (k : ℕ) : Type 0 where
  pub S : Tree
  pub U : Tree
  pub is_drawn : DrawnIn a S
  pub hanging : Hangs k U (roles (spine S))

-- x is between the least and the greatest of the numbers that f gives the nodes of U: one has at most x, another, or the same one, at least x.
pub record Between (f : ℕ → ℕ) (U : Tree) (x : ℕ) : Type 0 where
  pub one : ℕ
  pub other : ℕ
  pub one_node : T (member one (nodes U))
  pub other_node : T (member other (nodes U))
  pub from : f one ≤ x
  pub to : x ≤ f other

-- The rows that the drawing of U occupies: from its highest node's to its lowest node's.
abbrev pub OccupiesRow : (ℕ → Point) → Tree → ℕ → Type 0
OccupiesRow plan U x = Between (λ k. (plan k).row) U x

-- The rectangle of the drawing of U: Q is in its rows, and likewise in its columns.
abbrev pub InRectangle : (ℕ → Point) → Tree → Point → Type 0
InRectangle plan U Q = OccupiesRow plan U Q.row × Between (λ k. (plan k).column) U Q.column

-- In the drawing of a, where U and U' hang from the nodes k and m of one spine (in an accepted table no record is there twice, so that k tells U):
pub record SpinesApart (plan : ℕ → Point) (a : Tree) : Type 0 where
  -- "the drawings of its hung subtrees occupy rows that no other drawing of that spine occupies": if two occupy one row, they are one
  pub apart : {S U U' : Tree} {k m x : ℕ} → DrawnIn a S → Hangs k U (roles (spine S)) → Hangs m U' (roles (spine S)) → OccupiesRow plan U x →
      OccupiesRow plan U' x → k ≡ m
  -- "and spine boxes lie outside their rectangles": k, whatever hangs from it, and U'
  pub outside : {S U U' : Tree} {k m : ℕ} → DrawnIn a S → Hangs k U (roles (spine S)) → Hangs m U' (roles (spine S)) → InRectangle plan U' (plan k) → ⊥

-- "When I cover a branch with a ruler I want nothing of its neighbour beneath it." A branch is a tree U that is drawn in the drawing of a, a itself too.
-- Beneath a ruler over its rows a node b may be: one of its own, or one of a spine along which one comes to it, of a tree S in whose drawing U is, before U
-- or after it; so none of another branch. (Of lines nothing is promised.)
pub data Beneath (a : Tree) (b : ℕ) (U : Tree) : Type 0 where
  inside : T (member b (nodes U)) → Beneath a b U
  beside : {S U' : Tree} → DrawnIn a S → DrawnIn S U → Hangs b U' (roles (spine S)) → Beneath a b U
