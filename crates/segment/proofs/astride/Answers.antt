-- `segment::astride`: from the spans, either way round.
use native.Mathlib.Omega.{arith}
use mir.Syntax.{w64}
use Rattle.std.proofs.lemmas.Grind.{common_steps}
use Rattle.segment.specs.inner.Test.{astride}
use Rattle.segment.proofs.Range.{given}
use Rattle.segment.proofs.astride.Goals as goal

pub returns-then-spans : goal.returns-then-spans
unfolding astride
returns-then-spans g c = grind (arith, common_steps, given w64 c.cross-d.ensures c.cross-d.type_inv, given w64 c.cross-e.ensures c.cross-e.type_inv)

pub returns-else-spans : goal.returns-else-spans
unfolding astride
returns-else-spans g c = grind (arith, common_steps, given w64 c.cross-d.ensures c.cross-d.type_inv, given w64 c.cross-e.ensures c.cross-e.type_inv)
