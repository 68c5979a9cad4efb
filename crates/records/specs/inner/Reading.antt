-- What a reading of a table promises of its answer and of the two lists that it is lent, and what the calls that read a table keep of it.
use Rattle.std.specs.Prelude.{◌≡◌, cond, List, ℕ, length, get_or, take, Result, IfOk}
use Rattle.table.specs.declared.Refusal.{Refusal}
use Rattle.table.specs.Table.{chain, Chained}
use Rattle.table.specs.Tree.{size, tree_at}
use Rattle.table.specs.Cause.{refused_by}
use Rattle.table.specs.Refusal.{bad_free, bad_links, bad_tree, fault, refusal}
use Rattle.trees.specs.inner.Steps.{Ordered}

-- What the tests of a table whose chain is listed answer: causes 8, 4 and 5, in this order.
pub record Checked (t : List ℕ) (r : Result Unit Refusal) (n : ℕ) (order : List ℕ) : Type 0 where
  pub cause : refused_by r ≡ cond (bad_free t) 8 (cond (bad_links t) 4 (cond (bad_tree t) 5 0))
  pub ordered : IfOk r (λ _. Ordered t n order)

-- n is the number of nodes, the first n numbers of list are the chain, and those of order the nodes, breadth first.
pub record Traced (t : List ℕ) (n : ℕ) (list order : List ℕ) : Type 0 where
  pub nodes : n ≡ length (chain t)
  pub listed : take n list ≡ chain t
  pub ordered : Ordered t n order

-- "A refusal is given if its cause holds and no earlier one does, and never otherwise", from the bytes alone; a table that is not refused is listed.
pub record Examined (t : List ℕ) (r : Result ℕ Refusal) (list order : List ℕ) : Type 0 where
  pub refusal : refused_by r ≡ fault t
  pub accepted : IfOk r (λ n. Traced t n list order)

-- And from the number of placements.
pub record TracedOf (t : List ℕ) (places : ℕ) (r : Result ℕ Refusal) (list order : List ℕ) : Type 0 where
  pub refusal : refused_by r ≡ refusal t places
  pub accepted : IfOk r (λ n. Traced t n list order)

-- The same, and sizes has the size of the subtree at each node, 0 at zero, which "is none".
pub record Read (t : List ℕ) (n : ℕ) (list order sizes : List ℕ) : Type 0 where
  pub traced : Traced t n list order
  pub sized : (k : ℕ) → Chained t k → get_or sizes k 0 ≡ size (tree_at t k)
  pub none : get_or sizes 0 0 ≡ 0

-- The same; a table that is not refused is listed and sized.
pub record ReadOf (t : List ℕ) (places : ℕ) (r : Result ℕ Refusal) (list order sizes : List ℕ) : Type 0 where
  pub refusal : refused_by r ≡ refusal t places
  pub accepted : IfOk r (λ n. Read t n list order sizes)

-- The table is accepted, and the list is its chain.
pub record Nodes (t list : List ℕ) : Type 0 where
  pub accepted : fault t ≡ 0
  pub listed : list ≡ chain t
