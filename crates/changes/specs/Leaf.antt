-- Trees with one leaf more and with one fewer, a chain with one record more, and what a call that hangs or cuts leaves (document 02, Papers 5 and 8).
use Rattle.std.specs.Prelude.{◌≡◌, ◌≢◌, cond, ◌&&◌, List, [], ◌∷◌, ◌++◌, map, ℕ, zero, suc, eqb}
use Rattle.table.specs.Table.{tag_of, chain, Chained, free, first_free}
use Rattle.table.specs.Tree.{Tree, none, node}
use Rattle.table.specs.Trees.{trees}
use Rattle.table.specs.Refusal.{fault}
use Rattle.hanging.specs.Hanging.{hung}
use Rattle.cutting.specs.Cutting.{cut_out}

-- "Hang takes a parent, a side (0 left, 1 right)": the tree with the leaf f at that side of the node k
unfoldable pub with_leaf : (k side f : ℕ) → Tree → Tree
with_leaf k side f none = none
with_leaf k side f (node m a b) =
    node m (cond (eqb m k && eqb side 0) (node f none none) (with_leaf k side f a)) (cond (eqb m k && eqb side 1) (node f none none) (with_leaf k side f b))

-- The trees with that leaf; "Parent 0 hangs the root, only in an empty tree"
unfoldable pub with_child : (parent side f : ℕ) → List Tree → List Tree
with_child zero side f ts = node f none none ∷ []
with_child (suc k) side f ts = map (with_leaf (suc k) side f) ts

-- "Cut takes a childless box ... out of its parent's or the head's link": the tree without its leaf k
unfoldable pub without_leaf : ℕ → Tree → Tree
without_leaf k none = none
without_leaf k (node m a b) = cond (eqb m k) none (node m (without_leaf k a) (without_leaf k b))

-- The trees that have nodes.
unfoldable pub nonempty : List Tree → List Tree
nonempty [] = []
nonempty (none ∷ ts) = nonempty ts
nonempty (node m a b ∷ ts) = node m a b ∷ nonempty ts

-- The trees without that leaf: "cutting the only box empties the tree"; another root's tree that was this leaf alone is gone
unfoldable pub without_node : ℕ → List Tree → List Tree
without_node k [] = []
without_node k (a ∷ ts) = without_leaf k a ∷ nonempty (map (without_leaf k) ts)

-- "follows its parent in the chain": the second list is the first with f right behind k
pub record Behind (k f : ℕ) (ks fs : List ℕ) : Type 0 where
  pub before : List ℕ
  pub after : List ℕ
  pub without : ks ≡ before ++ (k ∷ after)
  pub inserted : fs ≡ before ++ (k ∷ f ∷ after)

-- "the first free record becomes that child, follows its parent in the chain": the table is accepted; the trees have the leaf at that place; it has that
-- tag, and the other nodes theirs; in the chain, the head before it, the leaf stands right behind its parent; it was the first of the free records, and the
-- others are free.
pub record HungLeaf (t : List ℕ) (parent side tag : ℕ) : Type 0 where
  pub accepted : fault (hung t parent side tag) ≡ 0
  pub grown : trees (hung t parent side tag) ≡ with_child parent side (first_free t) (trees t)
  pub tagged : tag_of (hung t parent side tag) (first_free t) ≡ tag
  pub tags : (k : ℕ) → Chained t k → tag_of (hung t parent side tag) k ≡ tag_of t k
  pub behind : Behind parent (first_free t) (0 ∷ chain t) (0 ∷ chain (hung t parent side tag))
  pub taken : free t ≡ first_free t ∷ free (hung t parent side tag)

-- "and puts it first among the free": the table is accepted; the trees are without that leaf; the other nodes have their tags; the chain is without it; it
-- is the first of the free records.
pub record CutLeaf (t : List ℕ) (k : ℕ) : Type 0 where
  pub accepted : fault (cut_out t k) ≡ 0
  pub pruned : trees (cut_out t k) ≡ without_node k (trees t)
  pub tags : (m : ℕ) → Chained t m → m ≢ k → tag_of (cut_out t k) m ≡ tag_of t m
  pub before : ℕ
  pub behind : Behind before k (0 ∷ chain (cut_out t k)) (0 ∷ chain t)
  pub given : free (cut_out t k) ≡ k ∷ free t
