-- Chained records are the nodes of an accepted table's trees (`chained_node`), and lines their edges (`line_child`). Rests on the laws of an accepted table
-- and of the ends of lines.
use mathlib.Core.Path.{◌≡◌, sym, subst}
use mathlib.Core.Logic.{⊎_elim}
use mathlib.Core.List.{List, [], ◌∷◌, map}
use Prim.Native.Nat.{ℕ}
use lib.Dec.{T}
use Rattle.table.specs.Lists.{member}
use Rattle.table.specs.Table.{Side, left, right, link_of, left_of, right_of, Chained, Line}
use Rattle.table.specs.Tree.{Tree, node, tree_at}
use Rattle.table.specs.Trees.{roots, trees}
use Rattle.table.specs.Refusal.{fault}
use Rattle.table.proofs.Lists.{member_cons}
use Rattle.table.proofs.Accepted.{tree_unfolds, down}
use Rattle.layout.proofs.Records.{IsNode, node_here, node_left, node_right, Root, root_here, Child, left_child, right_child, child_left, child_right}
use Rattle.layout.proofs.Stacked.{Among, here, there}
use Rattle.table.proofs.Ends.{child_chained}

-- S is a subtree of a tree.
data Subtree (S : Tree) : Tree → Type 0 where
  whole : Subtree S S
  in_left : {i : ℕ} {a b : Tree} → Subtree S a → Subtree S (node i a b)
  in_right : {i : ℕ} {a b : Tree} → Subtree S b → Subtree S (node i a b)

abbrev child_tree : Side → Tree → Tree → Tree
child_tree left a b = a
child_tree right a b = b

sub_child : (s : Side) {k : ℕ} {a b T : Tree} → Subtree (node k a b) T → Subtree (child_tree s a b) T
sub_child left whole = in_left whole
sub_child right whole = in_right whole
sub_child s (in_left h) = in_left (sub_child s h)
sub_child s (in_right h) = in_right (sub_child s h)

sub_node : {k : ℕ} {a b T : Tree} → Subtree (node k a b) T → IsNode k T
sub_node whole = node_here
sub_node (in_left h) = node_left (sub_node h)
sub_node (in_right h) = node_right (sub_node h)

sub_edge : (s : Side) {k c : ℕ} {a b T : Tree} → Subtree (node k a b) T → Root c (child_tree s a b) → Child k c s T
sub_edge left whole r = left_child r
sub_edge right whole r = right_child r
sub_edge s (in_left h) r = child_left (sub_edge s h r)
sub_edge s (in_right h) r = child_right (sub_edge s h r)

-- What holds of the tree at one of several records holds of one of their trees.
pub among_at : (P : Tree → Type 0) (f : ℕ → Tree) (k : ℕ) (ks : List ℕ) → P (f k) → T (member k ks) → Among P (map f ks)
unfolding member
among_at P f k [] h m = absurd m
among_at P f k (n ∷ ns) h m =
    ⊎_elim (λ (e : k ≡ n). here (subst (λ (j : ℕ). P (f j)) e h)) (λ (l : T (member k ns)). there (among_at P f k ns h l)) ((member_cons k n ns).0 m)

among_each : {P Q : Tree → Type 0} → ((a : Tree) → P a → Q a) → (ts : List Tree) → Among P ts → Among Q ts
among_each f [] h = elim h [ ]
among_each f (a ∷ ts) (here h) = here (f a h)
among_each f (a ∷ ts) (there h) = there (among_each f ts h)

module _ (t : List ℕ) (ok : fault t ≡ 0) where
  -- The tree at a chained record is a subtree of one of the table's.
  unfolded : (k : ℕ) → Chained t k → Among (Subtree (tree_at t k)) (trees t) →
      Among (Subtree (node k (tree_at t (left_of t k)) (tree_at t (right_of t k)))) (trees t)
  unfolded k h = subst (λ (S : Tree). Among (Subtree S) (trees t)) (tree_unfolds t ok k h)

  subtree : (k : ℕ) → Chained t k → Among (Subtree (node k (tree_at t (left_of t k)) (tree_at t (right_of t k)))) (trees t)
  subtree k h = unfolded k h (down t ok (λ (k : ℕ). Among (Subtree (tree_at t k)) (trees t))
      (λ k m c. among_at (Subtree (tree_at t k)) (tree_at t) k (roots t) whole m) step k h)
    where
      step : (k : ℕ) (s : Side) → Chained t k → Chained t (link_of t s k) → Among (Subtree (tree_at t k)) (trees t) →
          Among (Subtree (tree_at t (link_of t s k))) (trees t)
      step k left h c sub = among_each (λ a. sub_child left) (trees t) (unfolded k h sub)
      step k right h c sub = among_each (λ a. sub_child right) (trees t) (unfolded k h sub)

  pub chained_node : (k : ℕ) → Chained t k → Among (IsNode k) (trees t)
  chained_node k h = among_each (λ a. sub_node) (trees t) (subtree k h)

  root_at : (c : ℕ) → Chained t c → Root c (tree_at t c)
  root_at c h = subst (Root c) (sym (tree_unfolds t ok c h)) root_here

  pub line_child : {k c : ℕ} {s : Side} → Line t k s c → Among (Child k c s) (trees t)
  line_child {k} {c} {s} l = among_each (λ a h. sub_edge s h (at s l.links)) (trees t) (subtree k l.chained)
    where
      at : (s : Side) → link_of t s k ≡ c → Root c (child_tree s (tree_at t (left_of t k)) (tree_at t (right_of t k)))
      at left e = subst (λ (n : ℕ). Root c (tree_at t n)) (sym e) (root_at c (child_chained t ok l))
      at right e = subst (λ (n : ℕ). Root c (tree_at t n)) (sym e) (root_at c (child_chained t ok l))
