-- `strays` answers cause 4, and counts the links. The loop keeps that no record passed has a stray link, and the counts of the links passed.
use mathlib.Core.Path.{◌≡◌}
use mathlib.Core.Bool.{Bool, false, ◌||◌}
use mathlib.Core.List.{List}
use Prim.Native.Nat.{ℕ, ◌<◌}
use lib.ListN.{get_or, take}
use Rattle.table.specs.Table.{left_of, right_of}
use Rattle.table.specs.Trees.{links}
use Rattle.table.specs.Refusal.{stray}
use Rattle.trees.proofs.Tally.{Counts}
use Rattle.trees.proofs.links.strays.Given as goal

abbrev pub strayed : List ℕ → ℕ → Bool
strayed t k = stray t (left_of t k) || stray t (right_of t k)

abbrev pub invariant-loop-node : goal.invariant-loop-node
invariant-loop-node l = record {
  passed : (j : ℕ) → j < l.node-index → strayed l.table (get_or l.chain j 0) ≡ false;
  counted : Counts (links l.table (take l.node-index l.chain)) l.tally;
}
