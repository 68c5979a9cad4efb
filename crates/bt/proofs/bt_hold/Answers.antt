-- `bt::bt_hold` meets its contract: what `hold` says, in bits.
use mathlib.Core.Path.{ap, ◌∙◌}
use Rattle.bt.specs.Bits.{said_bits}
use Rattle.bt.proofs.bt_hold.Goals as goal

pub returns : goal.returns
returns c = c.hung_bits.ensures ∙ ap said_bits c.hold.ensures
