-- Any list of calls that hang, hold or cut in a table, refused or not (document 02, Papers 5 and 6).
use Rattle.std.specs.Prelude.{◌≡◌, List, [], ◌∷◌, ℕ, ◌+◌, length}
use Rattle.table.specs.Table.{chain, free}
use Rattle.table.specs.Refusal.{fault}
use Rattle.hanging.specs.Hanging.{after_hang}
use Rattle.hanging.specs.Holding.{after_held}
use Rattle.cutting.specs.Cutting.{after_cut}

-- A call, with what it is given.
pub data Call : Type 0 where
  hang : (parent side tag : ℕ) → Call
  hold : (parent side : ℕ) → Call
  hang_held : (parent side tag held : ℕ) → Call
  cut : (node : ℕ) → Call

-- The table after a call, whether it was refused or not; the first half of hanging "writes nothing".
unfoldable pub after : Call → List ℕ → List ℕ
after (hang parent side tag) t = after_hang t parent side tag
after (hold parent side) t = t
after (hang_held parent side tag held) t = after_held t parent side tag held
after (cut node) t = after_cut t node

-- The table after a list of calls, one after the other.
unfoldable pub after_all : List Call → List ℕ → List ℕ
after_all [] t = t
after_all (c ∷ cs) t = after_all cs (after c t)

-- "After any calls from an accepted table it is accepted, and chained plus free records number the same as at the start."
pub record Conserved (t u : List ℕ) : Type 0 where
  pub accepted : fault u ≡ 0
  pub number : length (chain u) + length (free u) ≡ length (chain t) + length (free t)
