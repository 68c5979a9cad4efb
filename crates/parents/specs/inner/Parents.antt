-- The parents of nodes, as a list by record.
use Rattle.std.specs.Prelude.{◌≡◌, ◌≢◌, cond, List, ℕ, T, eqb, get_or}
use Rattle.table.specs.Lists.{member}
use Rattle.table.specs.Table.{Side, Line}
use Rattle.table.specs.Trees.{roots}

-- up has the parent of each child, and 0 for the roots.
pub record Parents (t up : List ℕ) : Type 0 where
  pub parent : (k c : ℕ) (s : Side) → Line t k s c → get_or up c 0 ≡ k
  pub root : (k : ℕ) → T (member k (roots t)) → k ≢ 0 → get_or up k 0 ≡ 0

-- What is above c: its parent, or c itself where there is none.
abbrev pub above : List ℕ → ℕ → ℕ
above up c = cond (eqb (get_or up c 0) 0) c (get_or up c 0)
