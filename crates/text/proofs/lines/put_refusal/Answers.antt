-- `text::lines::put_refusal` meets its contract. Assumes nothing.
use Rattle.text.specs.Text.{refused_line}
use Rattle.fields.proofs.Puts.{put_then}
use Rattle.text.proofs.lines.put_refusal.Goals as goal

pub returns-clause-put : goal.returns-clause-put
unfolding refused_line
returns-clause-put c = put_then c.put_word.ensures (rw c.from.ensures at c.put_fields.ensures.put)
