-- `bt::bt_hang` meets its contract: what `hang` says, in bits.
use mathlib.Core.Path.{ap, ◌∙◌}
use Rattle.bt.specs.Bits.{said_bits}
use Rattle.bt.proofs.bt_hang.Goals as goal

pub returns : goal.returns
returns c = record {
  value = c.hung_bits.ensures ∙ ap said_bits c.hang.ensures.result_value;
  table_after = c.hang.ensures.table_after;
}
