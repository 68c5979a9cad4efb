-- `segment::meeting::along` meets its contract.
use mathlib.Core.Logic.{◌≢◌, inl, inr, ⊎_elim}
use mathlib.Core.Path.{◌≡◌, ◌∙◌}
use lib.IntN.{pos}
use Rattle.std.proofs.lemmas.Grind.{common_steps}
use native.Mathlib.Omega.{arith}
use Rattle.segment.specs.Segment.{Clash}
use Rattle.segment.proofs.Clashing.{common_end, clash→in_line}
use Rattle.segment.proofs.Answers.{holds, fails, found, none}
use Rattle.segment.proofs.meeting.along.Goals as goal

pub returns-then-lies : goal.returns-then-lies
returns-then-lies c =
    let n : c.args.p ≢ c.args.a = grind (arith, common_steps) in
    let m : c.args.p ≢ c.args.b = grind (arith, common_steps) in
    rw c.if-lies.true (found (common_end.0 (n, (m, inl (holds c.if-lies.true c.lies.ensures)))))

pub returns-else-lies : goal.returns-else-lies
returns-else-lies c =
    let n : c.args.p ≢ c.args.a = grind (arith, common_steps) in
    let m : c.args.p ≢ c.args.b = grind (arith, common_steps) in (
      λ t. common_end.0 (n, (m, inr (c.lies-else-lies.ensures.0 t))),
      λ h. ⊎_elim (λ l. absurd (fails c.if-lies.false c.lies.ensures l)) (λ l. c.lies-else-lies.ensures.1 l) (common_end.1 h).1.1,
    )

pub returns-else-ne-2 : goal.returns-else-ne-2
returns-else-ne-2 c =
    let n : Clash c.args.p c.args.a c.args.p c.args.b → ⊥ =
    λ h. let e : c.cross.result ≡ pos 0 = c.cross.ensures ∙ clash→in_line h in let z = common_end.1 h in grind (arith, common_steps, z.0, z.1.0, e) in
    rw c.if-ne-2.false (none n)
