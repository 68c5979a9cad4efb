-- `bt::bt_stroke` meets its contract: what `stroke` answers, in bits and written.
use mathlib.Core.Path.{ap, ◌∙◌}
use Rattle.pen.specs.Strokes.{Told}
use Rattle.bt.specs.Bits.{said_bits, overwritten}
use Rattle.bt.proofs.bt_stroke.Goals as goal

pub returns : goal.returns
returns c =
    let lent = c.args.point.now in
    let e = c.stroke.ensures in
    record {
      value = c.put_stroke.ensures.value ∙ ap (λ (a : Told). said_bits a.said) e;
      point_after = c.put_stroke.ensures.lent_after ∙ ap (λ (a : Told). overwritten a.point lent) e;
    }
