-- The children of the chained nodes of an accepted table: none twice (`children_distinct`), and with the roots as many as the nodes
-- (`children_length`). Rests on Accepted and Order.
use mathlib.Core.Path.{◌≡◌}
use mathlib.Core.Logic.{◌⊎◌, inl, inr}
use mathlib.Core.List.{List, ◌++◌}
use Prim.Native.Nat.{ℕ, zero, suc, ◌+◌, ◌≤◌}
use native.Mathlib.Decide.{ℕ_discrete}
use native.Mathlib.Omega.{arith}
use lib.Dec.{T}
use lib.ListN.{length, length-append}
use Rattle.table.specs.Lists.{member, count}
use Rattle.table.specs.Table.{root_of, chain, Chained}
use Rattle.table.specs.Trees.{links, named, roots}
use Rattle.table.specs.Refusal.{fault}
use Rattle.trees.specs.inner.Steps.{present}
use Rattle.table.proofs.Lists.{or_T, member_append, member_count, Distinct, repeats_count, Within, within, length_within}
use Rattle.table.proofs.Causes.{root_cases, named_within}
use Rattle.table.proofs.Accepted.{chain_within, chain_distinct, parented}
use Rattle.trees.proofs.Order.{count_present, zero_present, family_within}

-- The links of the chained nodes that are not zero.
abbrev pub children : List ℕ → List ℕ
children t = present (links t (chain t))

module _ (t : List ℕ) (ok : fault t ≡ 0) where
  pub children_distinct : Distinct (children t)
  children_distinct = (repeats_count (children t)).1 once
    where
      once : (k : ℕ) → count k (children t) ≤ 1
      once zero = omega (arith, zero_present (links t (chain t)))
      once (suc x) = omega (
        arith,
        named_within t (parented t ok) (suc x) (omega arith),
        count_present x (links t (chain t)),
        (repeats_count (chain t)).0 (chain_distinct t ok) (suc x),
      )

  pub children_length : Chained t (root_of t) → length (roots t) + length (children t) ≡ length (chain t)
  children_length r =
      omega (
        arith,
        length-append (roots t) (children t),
        length_within (roots t ++ children t) (chain t) inside,
        length_within (chain t) (roots t ++ children t) (within (chain t) (roots t ++ children t) (chain_distinct t ok) among),
      )
    where
      inside : Within (roots t ++ children t) (chain t)
      inside = family_within t (parented t ok) r (chain t) (λ k. omega arith)

      child : (k : ℕ) → 1 ≤ k → 1 ≤ named t k → T (member k (children t))
      child zero h e = absurd (omega arith)
      child (suc x) h e = (member_count (suc x) (children t)).1 (omega (arith, count_present x (links t (chain t))))

      among : (k : ℕ) → Chained t k → T (member k (roots t ++ children t))
      among k m = rw member_append ((or_T (member k (roots t)) (member k (children t))).1 (go (ℕ_discrete (named t k) 0)))
        where
          go : Dec (named t k ≡ 0) → T (member k (roots t)) ⊎ T (member k (children t))
          go (yes e) = inl ((root_cases t k).1 (inr (m, e)))
          go (no e) = inr (child k (chain_within t ok k m).0 (omega arith))
