-- The faults of a drawing by name, and their numbers (document 01, "What the sheet check says"; document 02, Paper 7). When each holds is in Conditions.
use Rattle.std.specs.Prelude.{ℕ, Option, None, Some, Result, Ok, Err}
use Rattle.table.specs.declared.Refusal.{Refusal}
use Rattle.table.specs.Cause.{number_of as number_of_refusal}
use Rattle.verdict.specs.declared.Fault.{Fault}
use Rattle.verdict.specs.declared.Fault.TheVariants.{SamePoint, ChildAbove, LinesCross, Clashing, OutOfOrder}

abbrev pub number_of : Fault → ℕ
number_of SamePoint = 21
number_of ChildAbove = 22
number_of LinesCross = 23
number_of Clashing = 25
number_of OutOfOrder = 24

-- The number of the first fault; "0 is good".
abbrev pub fault_number : Option Fault → ℕ
fault_number None = 0
fault_number (Some fault) = number_of fault

-- The number of what the check says.
abbrev pub verdict_number : Result (Option Fault) Refusal → ℕ
verdict_number (Ok found) = fault_number found
verdict_number (Err refusal) = number_of_refusal refusal
