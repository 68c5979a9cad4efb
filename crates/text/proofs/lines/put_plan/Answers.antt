-- `text::lines::put_plan` meets its contract. Assumes nothing.
use native.Mathlib.Omega.{arith}
use Rattle.table.proofs.Accepted.{refusal_none, records_bounds, chain_length}
use Rattle.text.specs.Text.{plan_line}
use Rattle.fields.proofs.Puts.{put_then, put_length}
use Rattle.text.proofs.lines.put_plan.Goals as goal

pub put_nodes-requires-clause-room : goal.put_nodes-requires-clause-room
put_nodes-requires-clause-room c =
    let ok = ((refusal_none c.args.table.now _).0 c.requires.placements_value).0 in
    omega (arith, records_bounds _ ok, chain_length _ ok, put_length c.put_word.ensures, put_length c.put_fields.ensures.put)

pub returns : goal.returns
unfolding plan_line
returns c =
    record {
      put = put_then (put_then c.put_word.ensures c.put_fields.ensures.put) c.put_nodes.ensures.put;
      upper_bound = omega (arith, put_length c.put_word.ensures, put_length c.put_fields.ensures.put);
    }
