-- `roles::choosing::choose_roles` meets its contract. The loop's invariant: keeping the roles from here on gives what keeping all that follow the first
-- node's does. The measure is the size of the subtree that is left. Rests on Spines.
use mathlib.Core.Path.{◌≡◌, refl, sym, ◌∙◌}
use native.Mathlib.Omega.{arith}
use lib.ListN.{length-set}
use Rattle.roles.specs.Chosen.{side_of}
use Rattle.roles.specs.inner.Roles.{hand_of}
use Rattle.roles.proofs.Choices.{opposite_twice}
use Rattle.roles.proofs.Spines.{chained, with_first, with_node, with_none}
use Rattle.roles.proofs.choosing.choose_roles.Goals as goal

pub loop-at-init : goal.loop-at-init
loop-at-init c = (c.fork_at-first.ensures.named_spine, (simp length-set (omega arith), refl))

pub fork_at-fork-requires : goal.fork_at-fork-requires
fork_at-fork-requires c = record { chained = chained _ _ c.loop-at.invariant.0 c.loop-at-test.true }

-- In the loop the record at hand is within the list, and so is the root.

pub loop-at-preserved : goal.loop-at-preserved
loop-at-preserved c =
    let ok = c.args.subtrees.sound in
    let f = c.fork_at-fork.ensures in (
      f.named_spine,
      (
        simp length-set c.loop-at.invariant.1.0,
        sym (with_node _ ok _ _ _ f _ _ c.role_after-role.ensures _ c.from-in-loop-at.ensures _) ∙
            c.loop-at.invariant.1.1,
      ),
    )

pub returns : goal.returns
returns c =
    let knee = c.knee_on-role in
    -- The hand is found by `cc`, which takes `twice` too, and names no call: so the edit `first_on_the_other_hand` is refused for what it answers.
    let twice = opposite_twice (side_of c.args.side) in
    let first : hand_of knee.result ≡ side_of c.args.side = cc in
    sym (with_none c.args.subtrees.table.now _ _ _ _ _ c.loop-at-test.false)
    ∙ c.loop-at.invariant.1.1
    ∙ sym (with_first _ _ _ _ _ _ c.fork_at-first.ensures knee.result (first, knee.ensures.1) _ c.from.ensures _)
