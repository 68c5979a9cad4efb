-- `roles::Subtrees::fork_at` meets its contract. Rests on Forks.
use mathlib.Core.Bool.{true, false}
use mathlib.Core.Path.{sym, ◌∙◌}
use native.Mathlib.Omega.{arith}
use Rattle.table.proofs.Accepted.{chain_within}
use Rattle.roles.proofs.Forks.{named_within, named, forked}
use Rattle.roles.proofs.Subtrees.fork_at.Goals as goal

pub left-left_child-requires : goal.left-left_child-requires
left-left_child-requires c = (chain_within _ c.args.self.sound _ c.requires.chained).1

pub right-right_child-requires : goal.right-right_child-requires
right-right_child-requires c = (chain_within _ c.args.self.sound _ c.requires.chained).1

pub bounds-self-left_child : goal.bounds-self-left_child
bounds-self-left_child c =
    let s = c.args.self in
    omega (
      arith,
      s.sized.long,
      named_within _ s.sound _ (named _ _ s.sound s.sized _ _ _ c.requires.chained c.left-left_child.ensures.0 c.right-right_child.ensures.0 false),
    )

pub bounds-self-right_child : goal.bounds-self-right_child
bounds-self-right_child c =
    let s = c.args.self in
    omega (
      arith,
      s.sized.long,
      named_within _ s.sound _ (named _ _ s.sound s.sized _ _ _ c.requires.chained c.left-left_child.ensures.0 c.right-right_child.ensures.0 true),
    )

pub returns-then-goes_right : goal.returns-then-goes_right
returns-then-goes_right c =
    let s = c.args.self in
    forked _ _ s.sound s.sized _ _ _ c.requires.chained c.left-left_child.ensures.0 c.right-right_child.ensures.0 _ true
    (sym c.if-goes_right.true ∙ c.goes_right.ensures)

pub returns : goal.returns
returns c =
    let s = c.args.self in
    forked _ _ s.sound s.sized _ _ _ c.requires.chained c.left-left_child.ensures.0 c.right-right_child.ensures.0 _ false
    (sym c.if-goes_right.false ∙ c.goes_right.ensures)
