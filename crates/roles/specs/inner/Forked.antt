-- What the fork of a spine node is: the child that the spine goes on to, and the child off the spine.
use Rattle.std.specs.Prelude.{◌≡◌, Bool, List, ◌∷◌, ℕ, ◌+◌, leb, ltb}
use Rattle.table.specs.Table.{Side, left, right}
use Rattle.table.specs.Tree.{size, tree_at}
use Rattle.layout.specs.Spine.{hangs}
use Rattle.layout.specs.inner.Held.{spine_on}
use Rattle.roles.specs.inner.Sized.{Named}

-- Whether a spine on the given side goes on to the right child, from the sizes of the two: of equal ones it takes that on its side.
abbrev pub goes_right : Side → ℕ → ℕ → Bool
goes_right left a b = ltb a b
goes_right right a b = leb a b

-- At the chained record k, in a spine drawn on the side s: the spine goes on to the record `spine`, and `hung` hangs on the side h; zero for none.
pub record Forked (t : List ℕ) (s : Side) (k : ℕ) (spine hung : ℕ) (h : Side) : Type 0 where
  pub named_spine : Named t spine
  pub named_hung : Named t hung
  pub forks : spine_on s (tree_at t k) ≡ hangs k h (tree_at t hung) ∷ spine_on s (tree_at t spine)
  pub sizes : size (tree_at t k) ≡ 1 + (size (tree_at t spine) + size (tree_at t hung))
