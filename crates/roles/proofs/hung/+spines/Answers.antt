-- Measuring meets its contracts. Rests on Surveys.
use Rattle.std.proofs.Common.{arith, inr}
use Rattle.roles.proofs.Surveys.{start, measured_none, measured_small, role_small, size_inside, step, widest_small, measured}
use Rattle.roles.proofs.hung.+spines.Goals as goal

pub measure_hung-returns-then-child-eq0 : goal.measure_hung-returns-then-child-eq0
measure_hung-returns-then-child-eq0 t c = measured_none _ _ _ _ _ c.if-child-eq0.true

pub measure_spine-loop-survey-init : goal.measure_spine-loop-survey-init
measure_spine-loop-survey-init t c =
    record {
      long_roles = omega arith;
      long_widest = omega arith;
      hand = _;
      role = _;
      surveying = start _ c.args.subtrees.sound _ _ (inr c.requires.chained) _ _ (omega arith) _ c.choose_roles.ensures;
    }

pub measure_spine-role_at-role-requires-clause-at_bound :
    goal.measure_spine-role_at-role-requires-clause-at_bound
measure_spine-role_at-role-requires-clause-at_bound t c =
    role_small _ c.args.subtrees.sound _ _ c.loop-survey.invariant c.fork_at-fork.ensures

pub measure_spine-measure_hung-width-requires : goal.measure_spine-measure_hung-width-requires
measure_spine-measure_hung-width-requires t c =
    let p = c.requires in
    let i = c.loop-survey.invariant in
    let d = c.fork_at-fork.ensures in (
      omega (arith, c.decreases, d.sizes, size_inside _ c.args.subtrees.sound _ _ i.surveying),
      d.named_hung,
    )

pub measure_spine-past-survey-requires : goal.measure_spine-past-survey-requires
measure_spine-past-survey-requires t c =
    omega (arith, measured_small _ c.args.subtrees.sound c.fork_at-fork.ensures.named_hung c.measure_hung-width.ensures)

pub measure_spine-loop-survey-preserved : goal.measure_spine-loop-survey-preserved
measure_spine-loop-survey-preserved t c =
    let hung = c.measure_hung-width in
    step _ c.args.subtrees.sound _ _ c.loop-survey.invariant c.fork_at-fork.ensures _ c.role_at-role.ensures _ c.hand.ensures
    _ _ _ (omega arith) (omega arith) hung.ensures _ c.past-survey.ensures

pub measure_spine-overflow_cast-widest : goal.measure_spine-overflow_cast-widest
measure_spine-overflow_cast-widest t c =
    let p = c.requires in
    omega (arith, widest_small _ c.args.subtrees.sound _ _ c.loop-survey.invariant.surveying p.chained)

pub measure_spine-width-requires : goal.measure_spine-width-requires
measure_spine-width-requires t c =
    let p = c.requires in
    omega (arith, widest_small _ c.args.subtrees.sound _ _ c.loop-survey.invariant.surveying p.chained)

pub measure_spine-returns : goal.measure_spine-returns
measure_spine-returns t c =
    let p = c.requires in
    let i = c.loop-survey.invariant in
    measured _ c.args.subtrees.sound _ _ i.surveying p.chained _ c.choose_roles.ensures i.long_widest c.loop-survey-test.false _ c.width.ensures
