-- The sizes of subtrees, listed by record.
use Rattle.std.specs.Prelude.{◌≡◌, ◌⊎◌, List, ℕ, get_or, length}
use Rattle.table.specs.Table.{Chained}
use Rattle.table.specs.Tree.{size, tree_at}

-- A record of the chain, or zero for none: what a link of an accepted table names.
abbrev pub Named : List ℕ → ℕ → Type 0
Named t k = (k ≡ 0) ⊎ Chained t k

-- s lists the sizes of the subtrees of the table t.
pub record Sized (t s : List ℕ) : Type 0 where
  pub long : length s ≡ 4097
  pub sized : (k : ℕ) → Named t k → get_or s k 0 ≡ size (tree_at t k)
