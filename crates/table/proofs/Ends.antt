-- The ends of the lines of an accepted table: two chained nodes, the child of one line only; each node is a root or the child of a line. Rests on Accepted.
use mathlib.Core.Path.{◌≡◌, sym, ◌∙◌, subst}
use mathlib.Core.Logic.{◌⊎◌, ⊎_elim, ⊎_map}
use mathlib.Core.List.{List}
use Prim.Native.Nat.{ℕ}
use native.Mathlib.Omega.{arith}
use lib.Dec.{T}
use Rattle.table.specs.Lists.{member}
use Rattle.table.specs.Table.{Side, link_of, Chained, Line}
use Rattle.table.specs.Trees.{roots}
use Rattle.table.specs.Refusal.{fault}
use Rattle.table.proofs.Accepted.{links_chained, parent, parent_unique, chain_within}

module _ (t : List ℕ) (ok : fault t ≡ 0) where
  pub child_chained : {k c : ℕ} {s : Side} → Line t k s c → Chained t c
  child_chained {k} {c} {s} l =
      ⊎_elim (λ (e : link_of t s k ≡ 0). absurd (l.child (sym l.links ∙ e))) (λ (m : Chained t (link_of t s k)). subst (Chained t) l.links m)
      (links_chained t ok k s l.chained)

  pub one_parent : {k m c : ℕ} {s r : Side} → Line t k s c → Line t m r c → k ≡ m
  one_parent {k} {m} {c} {s} {r} l n = (parent_unique t ok k m s r l.chained n.chained (omega arith) (l.links ∙ sym n.links)).0

  -- A node is a root, or the child of a line.
  pub above_node : (b : ℕ) → Chained t b → T (member b (roots t)) ⊎ ((k : ℕ) × (s : Side) × Line t k s b)
  above_node b h =
      ⊎_map (λ (r : T (member b (roots t))). r)
      (λ (p : (k : ℕ) × (s : Side) × Chained t k × (link_of t s k ≡ b)).
      (p.0, p.1, record { chained = p.2; links = p.3; child = λ e. omega (arith, chain_within t ok b h) }))
      (parent t ok b h)
