-- The two halves of hanging, with whatever happened between them (document 02, Paper 6).
use Rattle.std.specs.Prelude.{◌≡◌, ◌≢◌, List, ℕ}
use Rattle.table.specs.Table.{first_free}
use Rattle.hanging.specs.Hanging.{hang_refusal, after_hang}
use Rattle.hanging.specs.Holding.{held_refusal, after_held}

-- The second half on the table t as it then stands. What was held is the record that the first half named, of t or of an earlier table: the first free one
-- there (Hanging, `hang_says`). As long as it is the first free one of t: "The halves in succession do what hang does." Otherwise nothing is written. What
-- hanging refuses comes first, and the answer is 11 exactly "when another record would now be used, after 10".
pub record SecondHalf (t : List ℕ) (parent side tag held : ℕ) : Type 0 where
  pub answers : held ≡ first_free t → held_refusal t parent side held ≡ hang_refusal t parent side
  pub leaves : held ≡ first_free t → after_held t parent side tag held ≡ after_hang t parent side tag
  pub kept : held ≢ first_free t → after_held t parent side tag held ≡ t
  pub refused : hang_refusal t parent side ≢ 0 → held_refusal t parent side held ≡ hang_refusal t parent side
  pub eleven : hang_refusal t parent side ≡ 0 → held ≢ first_free t → held_refusal t parent side held ≡ 11
  pub only : held_refusal t parent side held ≡ 11 → (hang_refusal t parent side ≡ 0) × (held ≢ first_free t)
