-- What the steps towards a stroke say to each other. No promise to a caller is here.
use Rattle.std.specs.Prelude.{cond, List, ℕ, ◌%◌, eqb, Option, Some}
use Rattle.std.specs.declared.ops.ControlFlow.{ControlFlow}
use Rattle.std.specs.declared.ops.ControlFlow.TheVariants.{Continue, Break}
use Rattle.pen.specs.declared.lines.Ends.{Ends}
use Rattle.pen.specs.declared.strokes.Stroke.{Stroke}
use Rattle.pen.specs.declared.strokes.Stroke.TheVariants.{Lift, Draw}
use Rattle.pen.specs.Lines.{line_at}
use Rattle.pen.specs.Strokes.{pen_at}

-- The line that a step found, or else the one that it leaves to find among the rest.
abbrev pub after : ControlFlow Ends ℕ → List Ends → Option Ends
after (Break l) rest = Some l
after (Continue n) rest = line_at rest n

-- The stroke that a line gives: a lift to the parent under an even number, a draw to the child under an odd one.
abbrev pub chosen : List ℕ → ℕ → Ends → ℕ → Stroke
chosen p pitch l number = cond (eqb (number % 2) 0) (Lift (pen_at p pitch l.parent)) (Draw (pen_at p pitch l.child))
