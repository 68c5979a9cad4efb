-- How wide a drawing is, as a program counts it along the spine. Nothing here need be believed: it is proved equal to the drawing's width.
use Rattle.std.specs.Prelude.{Bool, true, ℕ}
use Rattle.layout.specs.Spine.{Role, knee, ordinary, switch}

-- Steps 4 to 6: the column, from the edge of a spine node's hand, where the edge of what hangs from it is.
abbrev pub edge : Role → ℕ
edge knee = 1
edge ordinary = 2
edge switch = 1

-- A spine turns at a switch.
abbrev pub turn : Role → Bool → Bool
turn knee b = b
turn ordinary b = b
turn switch b = true
