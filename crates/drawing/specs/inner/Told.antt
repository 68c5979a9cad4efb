-- What the drawing of a table says on the way to the drawer's answer. No promise to a caller is here.
use Rattle.std.specs.Prelude.{Result, Ok, Err}
use Rattle.table.specs.declared.Refusal.{Refusal}
use Rattle.table.specs.Cause.{number_of}
use Rattle.drawing.specs.declared.Plan.{Plan}
use Rattle.drawing.specs.Answer.{Drawn, empty_plan}

unfoldable pub told : Result Plan Refusal → Drawn
told (Ok plan) = record { refusal = 0; plan = plan }
told (Err r) = record { refusal = number_of r; plan = empty_plan }
