-- `refusal_of` answers the refusal that a tracing answers.
use Rattle.chains.proofs.Zeros.{blank}
use Rattle.records.proofs.refusal_of.Goals as goal

pub trace-traced-requires : goal.trace-traced-requires
trace-traced-requires c = record { blank = blank }
