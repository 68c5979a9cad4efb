-- `push` puts a link that is not zero at the end of the order.
use mathlib.Core.List.{append-nil}
use mathlib.Core.Path.{sym, ap}
use native.Mathlib.Numerals.{add-one}
use native.Mathlib.Omega.{arith}
use lib.ListN.{length}
use lib.Seq.{take-suc-set}
use Rattle.trees.proofs.Order.{present_none, present_one}
use Rattle.trees.proofs.reach.push.Goals as goal

pub returns-then-link-eq0-clause-order_after : goal.returns-then-link-eq0-clause-order_after
returns-then-link-eq0-clause-order_after c = rw (present_none _ c.if-link-eq0.true) (sym (append-nil _))

pub returns-clause-order_after : goal.returns-clause-order_after
returns-clause-order_after c =
    let one = present_one _ c.if-link-eq0.false in
    rw one (rw add-one (take-suc-set _ _ _ (omega (arith, ap length one))))
