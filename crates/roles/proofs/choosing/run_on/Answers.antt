-- `roles::choosing::run_on` meets its contract. Rests on Choices.
use Rattle.roles.proofs.Choices.{bare_runs}
use Rattle.roles.proofs.choosing.run_on.Goals as goal

-- What the call gave is found by `cc`, so that no call is named.
pub returns-then-fork-eq0 : goal.returns-then-fork-eq0
returns-then-fork-eq0 c = bare_runs _ _ _ (cc) (cc) c.if-fork-eq0.true
