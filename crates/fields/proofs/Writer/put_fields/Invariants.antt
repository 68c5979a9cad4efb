-- `fields::Writer::put_fields` meets its contract: whoever writes the fields that are left has written all of them.
use Rattle.std.proofs.Common.{◌≡◌, ◌+◌, ◌*◌, ◌≤◌, length, drop}
use Rattle.fields.specs.declared.Writer.{Writer}
use Rattle.fields.specs.Fields.{fields}
use Rattle.fields.specs.inner.Put.{Put}
use Rattle.fields.proofs.Writer.put_fields.Given as goal

abbrev pub invariant-loop-n : goal.invariant-loop-n
invariant-loop-n l = record {
  place : l.self.at ≤ l.initial.self.at + 6 * l.n-index;
  same_length : length l.self.out.now ≡ length l.initial.self.out.now;
  rest : (w : Writer) → Put (fields (drop l.n-index l.numbers)) l.self w → Put (fields l.numbers) l.initial.self w;
}
