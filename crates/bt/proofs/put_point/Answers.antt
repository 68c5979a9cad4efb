-- `bt::put_point` meets its contract.
use mathlib.Core.Path.{◌≡◌}
use mathlib.Core.List.{List, [], ◌∷◌}
use Prim.Native.Nat.{◌≤◌, ◌<◌}
use native.Mathlib.Omega.{arith}
use lib.ListN.{length, set}
use lib.Ieee.{Float}
use borrow.Author.Tests.{le-leb, lt-leb}
use Rattle.bt.specs.Bits.{overwritten}
use Rattle.bt.proofs.put_point.Goals as goal

room : (x y : Float) (lent : List Float) → 2 ≤ length lent → set (set lent 0 x) 1 y ≡ overwritten (x ∷ y ∷ []) lent
unfolding overwritten
room x y [] h = absurd (omega arith)
room x y (a ∷ []) h = absurd (omega arith)
room x y (a ∷ b ∷ rest) h = rw (le-leb 2 (length (a ∷ b ∷ rest)) h)

no_room : (point lent : List Float) → length lent < 2 → lent ≡ overwritten point lent
unfolding overwritten
no_room point lent h = rw (lt-leb 2 (length lent) h)

pub returns-then-lent-ge2 : goal.returns-then-lent-ge2
returns-then-lent-ge2 c = room _ _ _ c.if-lent-ge2.true

pub returns-else-lent-ge2 : goal.returns-else-lent-ge2
returns-else-lent-ge2 c = no_room _ _ c.if-lent-ge2.false
