-- The strokes of a table with placements, and the whole answer of the call (document 02, Paper 2).
use Rattle.std.specs.Prelude.{cond, List, [], ◌∷◌, ℕ, zero, suc, ◌*◌, eqb, length, Float, Option, None, Some, Result, Ok, Err}
use Rattle.std.specs.List.{slice_get}
use Rattle.placements.specs.Placements.{column_of, row_of}
use Rattle.table.specs.declared.Refusal.{Refusal}
use Rattle.table.specs.Cause.{number_of}
use Rattle.table.specs.Refusal.{refusal, or_else}
use Rattle.table.specs.Said.{Said}
use Rattle.pen.specs.declared.lines.Ends.{Ends}
use Rattle.pen.specs.declared.points.PenPoint.{PenPoint}
use Rattle.pen.specs.declared.strokes.Stroke.{Stroke}
use Rattle.pen.specs.declared.strokes.Stroke.TheVariants.{Lift, Draw}
use Rattle.pen.specs.Quarter.{quarter_of}
use Rattle.pen.specs.Lines.{lines}

-- "A coordinate is column or row times pitch, divided by 4": of record k
abbrev pub pen_at : List ℕ → ℕ → ℕ → PenPoint
pen_at p pitch k = record { x = (quarter_of (column_of p k * pitch)).float; y = (quarter_of (row_of p k * pitch)).float }

-- "Each line gives a lift to the parent and then a draw to the child"
unfoldable pub strokes : List ℕ → ℕ → List Ends → List Stroke
strokes p pitch [] = []
strokes p pitch (l ∷ ls) = Lift (pen_at p pitch l.parent) ∷ Draw (pen_at p pitch l.child) ∷ strokes p pitch ls

-- "stroke number k, from 0": of a list; past the last there is none
abbrev pub stroke_at : List Stroke → ℕ → Option Stroke
stroke_at ss number = slice_get ss number

-- "Answers: 7 for pitch 0, after 6"; 0 is no refusal
unfoldable pub stroke_refusal : List ℕ → ℕ → ℕ → ℕ
stroke_refusal t places pitch = or_else (refusal t places) (cond (eqb pitch 0) 7 0)

-- What an answer says: a refusal its number alone; otherwise 0 for done, 1 for a lift, 2 for a draw; and of a lift or a draw the point, column and row.
pub record Told : Type 0 where
  pub said : Said
  pub point : List Float

-- Of a stroke, or of none, which is done.
unfoldable pub drawn : Option Stroke → Told
drawn (Some (Lift P)) = record { said = record { number = 0; values = 1 ∷ [] }; point = P.x ∷ P.y ∷ [] }
drawn (Some (Draw P)) = record { said = record { number = 0; values = 2 ∷ [] }; point = P.x ∷ P.y ∷ [] }
drawn None = record { said = record { number = 0; values = 0 ∷ [] }; point = [] }

-- "a refusal returns the number alone"; without one, what is told of the stroke
abbrev pub unless_refused : ℕ → Told → Told
unless_refused zero s = s
unless_refused (suc n) s = record { said = record { number = suc n; values = [] }; point = [] }

unfoldable pub told : Result (Option Stroke) Refusal → Told
told (Ok s) = drawn s
told (Err r) = record { said = record { number = number_of r; values = [] }; point = [] }

-- What the call has to say: "stroke number k, from 0, is a lift to a point, a draw to a point, or done"; "A number past the last stroke gives done"
unfoldable pub stroke_of : List ℕ → List ℕ → ℕ → ℕ → Told
stroke_of t p pitch number = unless_refused (stroke_refusal t (length p) pitch) (drawn (stroke_at (strokes p pitch (lines t)) number))
