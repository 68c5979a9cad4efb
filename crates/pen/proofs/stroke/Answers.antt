-- `stroke` meets its contract: the refusal of the reading, 7, or else the stroke of the line of half the number. Rests on Answered, LineList and Plotted.
use mathlib.Core.Path.{sym, ap, ◌∙◌}
use native.Mathlib.Omega.{arith}
use Rattle.std.specs.Prelude.{Some}
use Rattle.records.proofs.Zeros.{blank}
use Rattle.table.proofs.Accepted.{refusal_none}
use Rattle.pen.proofs.LineList.{line_within}
use Rattle.pen.proofs.Plotted.{stroke_chosen}
use Rattle.pen.proofs.Answered.{refused, stroked}
use Rattle.pen.proofs.stroke.Goals as goal

pub trace-requires : goal.trace-requires
trace-requires c = record { blank = blank }

pub returns-in_err-count : goal.returns-in_err-count
returns-in_err-count c = refused _ _ _ _ _ _ c.from_residual.ensures.1 c.in_err-count.ensures.refusal

pub invariant_of-forest : goal.invariant_of-forest
invariant_of-forest c =
    let sound = (refusal_none _ _).0 (sym c.in_ok-count.ensures.refusal) in
    record { listed = record { accepted = sound.0; listed = c.in_ok-count.ensures.accepted.listed } }

pub choose-requires : goal.choose-requires
choose-requires c =
    let sound = (refusal_none _ _).0 (sym c.in_ok-count.ensures.refusal) in
    let within = line_within _ sound.0 _ c.in-Some.ends (sym c.line.ensures ∙ c.in-Some.is) in
    (omega (arith, sound.1, within), omega (arith, sound.1, within))

pub returns-in_default : goal.returns-in_default
returns-in_default c =
    stroked _ _ _ _ c.in_ok-count.ensures.refusal c.if-pitch-eq0.false (stroke_chosen _ _ _ c.args.number (sym c.in_default.is ∙ c.line.ensures))

pub returns : goal.returns
returns c =
    stroked _ _ _ _ c.in_ok-count.ensures.refusal c.if-pitch-eq0.false
    (stroke_chosen _ _ _ c.args.number (sym c.in-Some.is ∙ c.line.ensures) ∙ ap Some (sym c.choose.ensures))
