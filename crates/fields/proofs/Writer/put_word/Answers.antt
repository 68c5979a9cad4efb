-- `fields::Writer::put_word` meets its contract.
use Rattle.std.proofs.Common.{length, refl, ◌∙◌, arith}
use Rattle.std.proofs.lemmas.Slice.{put_mid-paste}
use Rattle.fields.proofs.Puts.{paste_sets}
use Rattle.fields.proofs.Writer.put_word.Goals as goal

pub returns : goal.returns
returns c = record {
  same = refl;
  place = refl;
  stored = put_mid-paste _ _ _ _ c.args.word.now (length c.args.word.now) c.copy_from_slice.ensures.after (omega arith) refl ∙ paste_sets _ _ _ c.requires;
}
