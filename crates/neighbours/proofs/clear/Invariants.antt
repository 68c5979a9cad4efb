-- `clear`: what `Abreast` says is so from before the first line to after the last. Rests on Steps.
use Rattle.neighbours.specs.inner.Abreast.{EndsBy, Abreast}
use lib.ListN.{length}
use mathlib.Core.Path.{◌≡◌}
use mathlib.Core.List.{List}
use Prim.Native.Nat.{ℕ, ◌+◌, ◌≤◌}
use Rattle.neighbours.proofs.clear.Given as goal

-- Lines are abreast at some level, not below the next.
pub record Reached (i m soon : ℕ) (lines abreast : List ℕ) : Type 0 where
  pub level : ℕ
  pub soon-by : soon ≤ level
  pub ends_by : EndsBy i level lines
  pub so : Abreast (length lines) i level m lines abreast

abbrev pub invariant-loop-i : goal.invariant-loop-i
invariant-loop-i l =
    (l.i + l.front.count ≤ length l.lines) × (l.front.lines.now ≡ l.lines) × (length l.front.places.now ≡ length l.fn.abreast) ×
    Reached l.i l.front.count l.soon l.lines l.front.places.now

abbrev pub decreases-loop-i : goal.decreases-loop-i
decreases-loop-i l = l.i + l.i + l.front.count
