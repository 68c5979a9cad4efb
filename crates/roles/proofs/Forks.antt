-- The fork of a spine at a node, from the links of an accepted table and the sizes of the subtrees. Rests on the laws of accepted tables.
use mathlib.Core.Bool.{Bool, true, false, not}
use mathlib.Core.Path.{◌≡◌, ap, ◌∙◌}
use mathlib.Core.List.{List, ◌∷◌}
use mathlib.Core.Logic.{inl, inr}
use Prim.Native.Nat.{ℕ, ◌+◌, ◌<◌}
use native.Mathlib.Omega.{arith}
use lib.Dec.{T}
use lib.ListN.{get_or}
use borrow.Author.Tests.{ltb-true, ltb-false, lt-leb, le-leb}
use Rattle.table.specs.Lists.{member}
use Rattle.table.specs.Table.{Side, left, right, left_of, right_of, chain}
use Rattle.table.specs.Tree.{Tree, node, size, tree_at}
use Rattle.table.specs.Refusal.{fault}
use Rattle.table.proofs.Accepted.{records_bounds, chain_within, links_chained, tree_unfolds}
use Rattle.layout.specs.Spine.{hangs}
use Rattle.layout.specs.inner.Held.{spine_on}
use Rattle.roles.specs.inner.Sized.{Named, Sized}
use Rattle.roles.specs.inner.Forked.{Forked, goes_right}

-- What a link names is within a list of 4097.
pub named_within : (t : List ℕ) → fault t ≡ 0 → (k : ℕ) → Named t k → k < 4097
named_within t ok k (inl e) = omega arith
named_within t ok k (inr h) = omega (arith, chain_within t ok k h, records_bounds t ok)

-- The side of a child: true for the right one.
abbrev pub on : Bool → Side
on true = right
on false = left

-- The spine goes on to one child, and the other hangs: true for the right one.
takes : (s : Side) (g : Bool) (k : ℕ) (c : Bool → Tree) → goes_right s (size (c false)) (size (c true)) ≡ g →
    spine_on s (node k (c false) (c true)) ≡ hangs k (on (not g)) (c (not g)) ∷ spine_on s (c g)
unfolding spine_on
takes right true k c e = rw (e, spine_on)
takes right false k c e = rw (e, spine_on)
takes left true k c e = rw (lt-leb _ _ (ltb-true (size (c false)) (size (c true)) e), spine_on)
takes left false k c e = rw (le-leb _ _ (ltb-false (size (c false)) (size (c true)) e), spine_on)

module _ (t s : List ℕ) (ok : fault t ≡ 0) (z : Sized t s) (k l r : ℕ) (h : T (member k (chain t))) (el : l ≡ left_of t k) (er : r ≡ right_of t k) where
  abbrev child : Bool → ℕ
  child true = r
  child false = l

  pub named : (g : Bool) → Named t (child g)
  named true = rw er (links_chained t ok k right h)
  named false = rw el (links_chained t ok k left h)

  unfolds : tree_at t k ≡ node k (tree_at t l) (tree_at t r)
  unfolds = rw (el, er) (tree_unfolds t ok k h)

  sizes : (g : Bool) → size (tree_at t k) ≡ 1 + (size (tree_at t (child g)) + size (tree_at t (child (not g))))
  unfolding size
  sizes true = omega (arith, ap size unfolds)
  sizes false = omega (arith, ap size unfolds)

  pub forked : (a : Side) (g : Bool) → g ≡ goes_right a (get_or s l 0) (get_or s r 0) → Forked t a k (child g) (child (not g)) (on (not g))
  forked a g e = record {
    named_spine = named g;
    named_hung = named (not g);
    forks = ap (spine_on a) unfolds ∙ takes a g k (λ (d : Bool). tree_at t (child d)) (cc (z.sized l (named false), z.sized r (named true)));
    sizes = sizes g;
  }
