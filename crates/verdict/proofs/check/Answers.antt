-- The refusal of the reading, or else the judgement. Rests on the laws of an accepted table.
use mathlib.Core.Path.{sym}
use Rattle.records.proofs.Zeros.{blank}
use Rattle.table.proofs.Accepted.{refusal_none}
use Rattle.verdict.proofs.check.Goals as goal

pub trace-requires : goal.trace-requires
trace-requires c = record { blank = blank }

pub invariant_of-forest : goal.invariant_of-forest
invariant_of-forest c =
    let r = c.in_ok-count.ensures in
    record { listed = record { accepted = ((refusal_none _ _).0 (sym r.refusal)).0; listed = r.accepted.listed } }

pub invariant_of-sheet : goal.invariant_of-sheet
invariant_of-sheet c = record { placed = ((refusal_none _ _).0 (sym c.in_ok-count.ensures.refusal)).1 }
