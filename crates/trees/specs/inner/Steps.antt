-- What the tests of the links and of the trees leave to the next one. No promise to a caller is here.
use Rattle.std.specs.Prelude.{◌≡◌, Option, MatchOption}
use Rattle.std.specs.Prelude.{Bool, true, false, not, ◌||◌, List, [], ◌∷◌, ◌++◌, ℕ, zero, suc, ◌+◌, ◌≤◌, ◌<◌, T, eqb, ltb, length, get_or, take}
use Rattle.table.specs.Lists.{any, member, count}
use Rattle.table.specs.Table.{records, left_of, right_of, chain, Chained, root_of}
use Rattle.table.specs.Tree.{tree_at, size}
use Rattle.chains.specs.inner.Listing.{Shaped}
use Rattle.table.specs.Trees.{links, named, roots, trees, nodes_of}
use Rattle.table.specs.Refusal.{bad_chain, bad_links, bad_tree}

-- tally has how often each record is named as a child.
pub record Tallied (t tally : List ℕ) : Type 0 where
  pub long : length tally ≡ 4097
  pub tallies : (k : ℕ) → k < 4097 → get_or tally k 0 ≡ named t k

-- The parts of cause 5 that are left when the head's root is on the chain, and not named: a chained node is named more than once, one is reached from no root.
unfoldable pub named_twice : List ℕ → Bool
named_twice t = any (λ k. ltb 1 (named t k)) (chain t)

unfoldable pub not_reached : List ℕ → Bool
not_reached t = any (λ k. not (member k (nodes_of (trees t)))) (chain t)

-- The roots are the first n numbers of list; the head's root is not named, and no node more than once.
pub record Found (t : List ℕ) (n : ℕ) (list : List ℕ) : Type 0 where
  pub well : not (eqb (named t (root_of t)) 0) || named_twice t ≡ false
  pub room : n ≤ length list
  pub listed : take n list ≡ roots t

-- What a search for the roots answers: how many they are, listed, or None if the head's root is named, or a node more than once.
abbrev pub RootList : List ℕ → Option ℕ → List ℕ → Type 0
RootList t r list = MatchOption r (not (eqb (named t (root_of t)) 0) || named_twice t ≡ true) (λ n. Found t n list)

-- Refused with 5 at most, and only for a node that is not reached.
pub record Rooted (t : List ℕ) : Type 0 where
  pub shaped : Shaped t
  pub sound : bad_chain t ≡ false
  pub linked : bad_links t ≡ false
  pub root : Chained t (root_of t)
  pub unnamed : named t (root_of t) ≡ 0
  pub once : named_twice t ≡ false

-- The links that are not zero.
unfoldable pub present : List ℕ → List ℕ
present [] = []
present (zero ∷ ks) = present ks
present (suc k ∷ ks) = suc k ∷ present ks

-- A breadth-first order, as far as its node h: the roots, then the children of the first h nodes, each of the h before its children. No record stands
-- there more often than on the chain.
pub record Queue (t : List ℕ) (h : ℕ) (order : List ℕ) : Type 0 where
  pub listed : order ≡ roots t ++ present (links t (take h order))
  pub early : (i : ℕ) → i < h → i < length (roots t) + length (present (links t (take i order)))
  pub within : (k : ℕ) → count k order ≤ count k (chain t)

-- sizes has the sizes of the subtrees at the given nodes, and 0 at zero.
pub record Filled (t : List ℕ) (ks sizes : List ℕ) : Type 0 where
  pub long : length sizes ≡ 4097
  pub sized : (k : ℕ) → T (member k ks) → get_or sizes k 0 ≡ size (tree_at t k)
  pub none : get_or sizes 0 0 ≡ 0

-- The sizes of the subtrees at the children of node k are there, and their sum and one is that of its own subtree, which is no greater than 4,096.
pub record Fillable (t : List ℕ) (k : ℕ) (sizes : List ℕ) : Type 0 where
  pub long : length sizes ≡ 4097
  pub inside : k < records t
  pub room : records t ≤ 4097
  pub left_room : left_of t k < 4097
  pub right_room : right_of t k < 4097
  pub sum : 1 + get_or sizes (left_of t k) 0 + get_or sizes (right_of t k) 0 ≡ size (tree_at t k)
  pub few : size (tree_at t k) < 4097

-- The first n numbers of order are the n nodes, breadth first.
pub record Ordered (t : List ℕ) (n : ℕ) (order : List ℕ) : Type 0 where
  pub enough : n ≤ length order
  pub queued : (n ≡ 0 → ⊥) → Queue t n (take n order)

-- What the tests of cause 5 answer.
pub record Grown (t : List ℕ) (r : Bool) (n : ℕ) (order : List ℕ) : Type 0 where
  pub good : r ≡ not (bad_tree t)
  pub ordered : r ≡ true → Ordered t n order
