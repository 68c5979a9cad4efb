-- `roles::choosing::role_after` meets its contract. Rests on Choices.
use mathlib.Core.Path.{sym, ◌∙◌}
use Rattle.roles.specs.inner.Roles.{hand_of}
use Rattle.roles.proofs.Choices.{follows_switch, follows_run, opposite_twice}
use Rattle.roles.proofs.choosing.role_after.Goals as goal

-- The hand of the knee is found by `cc`, so that no call is named.
pub returns-then-is_switch : goal.returns-then-is_switch
returns-then-is_switch c =
    let twice = opposite_twice (hand_of c.args.before) in
    follows_switch _ _ _ (sym c.is_switch.ensures ∙ c.if-is_switch.true) (cc) (cc)

pub returns : goal.returns
returns c =
    follows_run _ _ _ _ (sym c.is_switch.ensures ∙ c.if-is_switch.false) c.hand-2.ensures c.run_on.ensures
