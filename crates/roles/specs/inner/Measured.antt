-- What measuring does, for the contracts of its functions.
use Rattle.std.specs.Prelude.{◌≡◌, List, ℕ, ◌+◌, max, get_or}
use Rattle.table.specs.Lists.{count}
use Rattle.table.specs.Table.{Side}
use Rattle.table.specs.Tree.{Tree, nodes, tree_at}
use Rattle.layout.specs.inner.Held.{width_on}
use Rattle.layout.specs.inner.Width.{edge, turn}
use Rattle.roles.specs.declared.role.Role.{Role}
use Rattle.roles.specs.declared.survey.Survey.{Survey}
use Rattle.roles.specs.inner.Prepared.{Prepared}
use Rattle.roles.specs.inner.Roles.{role_of}

-- Only entries at the records of S differ.
abbrev pub SameOutside : Tree → List ℕ → List ℕ → Type 0
SameOutside S xs ys = (x : ℕ) → count x (nodes S) ≡ 0 → get_or ys x 0 ≡ get_or xs x 0

-- The subtree at k is measured for its drawing on the side s, from the lists R and W to R' and W'; its drawing has the width w.
pub record Measured (t : List ℕ) (s : Side) (k : ℕ) (R W R' W' : List ℕ) (w : ℕ) : Type 0 where
  pub wide : w ≡ width_on s (tree_at t k)
  pub prepared : Prepared R' W' s (tree_at t k)
  pub kept_roles : SameOutside (tree_at t k) R R'
  pub kept_widest : SameOutside (tree_at t k) W W'

-- A survey along a spine goes on to the node `next`, from a node of role o with a drawing of width w hung from it.
pub record Longer (v : Survey) (o : Role) (w next : ℕ) (v' : Survey) : Type 0 where
  pub at : v'.at ≡ next
  pub widest : v'.widest ≡ max v.widest w
  pub reach : v'.reach ≡ max v.reach (edge (role_of o) + w)
  pub turned : v'.turned ≡ turn (role_of o) v.turned
