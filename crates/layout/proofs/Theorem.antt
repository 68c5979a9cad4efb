-- THE THEOREM: the drawing of every tree keeps what demand 3 (docs/GROUNDS.md) promises of it (`promise`).
use mathlib.Core.Path.{◌≡◌, ap}
use Prim.Native.Nat.{ℕ, suc, ◌+◌, ◌*◌, ◌^◌, ◌≤◌, ◌<◌}
use native.Mathlib.Omega.{arith}
use Rattle.segment.specs.Segment.{at}
use Rattle.table.specs.Tree.{Tree, size}
use Rattle.layout.specs.Layout.{Layout, width, height, shift, RootAt}
use Rattle.layout.specs.Drawing.{draw}
use Rattle.layout.proofs.Clean.{Clean}
use Rattle.layout.proofs.Meet.{untangled_clean}
use Rattle.layout.proofs.Motions.{untangled_shift}
use Rattle.layout.proofs.Rows.{shape, HoldsRow}
use Rattle.layout.proofs.Whole.{drawn}

pub record Promise (t : Tree) (L : Layout) : Type 0 where
  -- the same records and links
  pub same : shape L ≡ t
  -- the root is at (0, 0)
  pub corner : RootAt (at 0 0) L
  -- 21 to 25
  pub clean : Clean L
  -- "The allowed width of n boxes is 3·floor(log2 n) + 1": k is that floor where n is also at least 2 to the power k
  pub narrow : (k : ℕ) → size t < 2 ^ suc k → width L ≤ 3 * k + 1
  pub short : height L ≤ size t
  -- every row from 0 to the height less 1 holds a node
  pub filled : (j : ℕ) → j < height L → HoldsRow L j

pub promise : (t : Tree) → Promise t (draw t)
promise t = let d = drawn t in record {
  same = d.same;
  corner = d.stands.root;
  clean = untangled_clean d.stands.untangled;
  narrow = d.narrow;
  short = omega (arith, d.short, ap size d.same);
  filled = d.filled;
}

-- 21 to 25 hold wherever it is shifted to.
pub clean_shifted : (e r : ℕ) (t : Tree) → Clean (shift e r (draw t))
clean_shifted e r t = untangled_clean (untangled_shift e r (drawn t).stands.untangled)
