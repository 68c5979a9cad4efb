-- The functions of placing meet their contracts: the steps of a walk, the drawing of what hangs, and the spine from its first node to its end.
use Rattle.std.proofs.Common.{arith, List, ℕ, ◌+◌, refl, sym, ap, ◌∙◌}
use Rattle.table.specs.Tree.{size, tree_at}
use Rattle.layout.specs.Spine.{knee, ordinary, switch}
use Rattle.roles.specs.inner.Roles.{role_of}
use Rattle.roles.proofs.Choices.{switch_is}
use Rattle.drawing.proofs.Walking.{drawable_as}
use Rattle.drawing.proofs.Walking.{edge_knee, drawable_far, after_far, after_near}
use Rattle.drawing.proofs.Walking.{column_ordinary, rows_at_ordinary, drawable_ordinary, after_ordinary}
use Rattle.drawing.proofs.Walking.{column_switch, widest_at_switch, rows_at_switch, drawable_switch, drawable_pending, next_role, next_below, after_switch}
use Rattle.drawing.proofs.Walking.{knee_is, ordinary_is, going_as, role_below, stepped_for}
use Rattle.drawing.proofs.Keeping.{kept_on, going_kept, drawable_kept, stepped_back, drawn_back}
use Rattle.drawing.proofs.Starting.{no_subtree, column_drawn, drawable_side, drawn_side, drawable_hand, drawn_hand}
use Rattle.drawing.proofs.Starting.{root_below, going_start, drawn_start, drawable_end, walked_start, walked_on, walked_end}
use Rattle.drawing.proofs.spines.Spines.+spines.Goals as goal

-- ---- at_knee

pub at_knee-set_point-requires-clause-column_bound : goal.at_knee-set_point-requires-clause-column_bound
at_knee-set_point-requires-clause-column_bound t c =
    let f = edge_knee _ _ _ _ _ _ _ c.requires.forked c.requires.going in
    (f.0, omega (arith, f.1))

pub at_knee-overflow_add-row : goal.at_knee-overflow_add-row
at_knee-overflow_add-row t c =
    omega (arith, (edge_knee _ _ _ _ _ _ _ c.requires.forked c.requires.going).1, c.max-lowest.ensures)

pub at_knee-draw_hung-below-requires : goal.at_knee-draw_hung-below-requires
at_knee-draw_hung-below-requires t c =
    let far = sym c.is_far.ensures ∙ c.if-is_far.true in (
      omega (arith, c.decreases, c.requires.forked.sizes),
      drawable_as _ _ _ _ _ _ _ _ _ (ap (λ (n : ℕ). n + 1) c.max-lowest.ensures)
          (drawable_far _ _ _ _ _ _ _ c.requires.forked far c.requires.going),
    )

pub at_knee-returns-then-is_far-clause-stepped : goal.at_knee-returns-then-is_far-clause-stepped
at_knee-returns-then-is_far-clause-stepped t c =
    after_far _ _ _ _ _ _ _ c.requires.forked _ _ _ _ _ _ c.max-lowest.ensures c.set_point.ensures c.draw_hung-below.ensures.drawn
    c.onward.ensures (sym c.is_far.ensures ∙ c.if-is_far.true) c.requires.going

pub at_knee-returns-clause-stepped : goal.at_knee-returns-clause-stepped
at_knee-returns-clause-stepped t c =
    after_near _ _ _ _ _ _ _ c.requires.forked _ _ _ _ c.max-lowest.ensures c.set_point.ensures c.onward-2.ensures
    (sym c.is_far.ensures ∙ c.if-is_far.false) c.requires.going

-- ---- at_ordinary

pub at_ordinary-inwards-requires : goal.at_ordinary-inwards-requires
at_ordinary-inwards-requires t c = column_ordinary _ _ _ _ _ _ _ c.requires.forked c.requires.going

pub at_ordinary-set_point-requires-clause-column_bound : goal.at_ordinary-set_point-requires-clause-column_bound
at_ordinary-set_point-requires-clause-column_bound t c =
    (c.inwards.ensures.1, omega (arith, rows_at_ordinary _ _ _ _ _ _ _ c.requires.forked c.requires.going))

pub at_ordinary-overflow_add-row : goal.at_ordinary-overflow_add-row
at_ordinary-overflow_add-row t c = omega (arith, rows_at_ordinary _ _ _ _ _ _ _ c.requires.forked c.requires.going)

pub at_ordinary-draw_hung-below-requires : goal.at_ordinary-draw_hung-below-requires
at_ordinary-draw_hung-below-requires t c = (
  omega (arith, c.decreases, c.requires.forked.sizes),
  drawable_ordinary _ _ _ _ _ _ _ c.requires.forked c.requires.going,
)

pub at_ordinary-returns-clause-stepped : goal.at_ordinary-returns-clause-stepped
at_ordinary-returns-clause-stepped t c =
    after_ordinary _ _ _ _ _ _ _ c.requires.forked _ _ _ _ _ _ _ c.inwards.ensures.0 c.set_point.ensures c.draw_hung-below.ensures.drawn
    c.max.ensures c.onward.ensures c.requires.going

-- ---- at_switch

pub at_switch-inwards-requires : goal.at_switch-inwards-requires
at_switch-inwards-requires t c = column_switch _ _ _ _ _ _ _ c.requires.forked c.requires.going 1 (omega arith)

pub at_switch-set_point-requires-clause-column_bound : goal.at_switch-set_point-requires-clause-column_bound
at_switch-set_point-requires-clause-column_bound t c =
    (c.inwards.ensures.1, omega (arith, rows_at_switch _ _ _ _ _ _ _ c.requires.forked c.requires.going))

pub at_switch-overflow_add-row : goal.at_switch-overflow_add-row
at_switch-overflow_add-row t c = omega (arith, rows_at_switch _ _ _ _ _ _ _ c.requires.forked c.requires.going)

pub at_switch-draw_hung-foot-requires : goal.at_switch-draw_hung-foot-requires
at_switch-draw_hung-foot-requires t c = (
  omega (arith, c.decreases, c.requires.forked.sizes),
  drawable_switch _ _ _ _ _ _ _ c.requires.forked c.requires.going,
)

pub at_switch-draw_hung-below-requires : goal.at_switch-draw_hung-below-requires
at_switch-draw_hung-below-requires t c =
    let k = c.draw_hung-foot.ensures.kept in (
      omega (arith, c.decreases, c.requires.forked.sizes, ap (λ (t : List ℕ). size (tree_at t c.args.walk.pending)) k.table),
      drawable_kept k (drawable_as _ _ _ _ _ _ _ _ _ c.draw_hung-foot.ensures.drawn.ends
          (drawable_pending _ _ _ _ _ _ _ c.requires.forked c.requires.going)),
    )

pub at_switch-overflow_add-walk : goal.at_switch-overflow_add-walk
at_switch-overflow_add-walk t c = omega (arith, widest_at_switch _ _ _ _ _ _ _ c.requires.forked c.requires.going)

pub at_switch-inwards-requires-2 : goal.at_switch-inwards-requires-2
at_switch-inwards-requires-2 t c =
    column_switch _ _ _ _ _ _ _ c.requires.forked c.requires.going (c.args.walk.widest + 2) (omega arith)

pub at_switch-hand_at-hand-requires-clause-at_bound :
    goal.at_switch-hand_at-hand-requires-clause-at_bound
at_switch-hand_at-hand-requires-clause-at_bound t c =
    next_below _ _ _ _ _ _ _ c.requires.forked c.args.self.now.subtrees.sound c.requires.going

pub at_switch-returns-clause-stepped : goal.at_switch-returns-clause-stepped
at_switch-returns-clause-stepped t c =
    after_switch _ _ _ _ _ _ _ c.requires.forked _ _ _ _ _ _ _ _ _ c.inwards.ensures.0 c.set_point.ensures
    c.draw_hung-foot.ensures.drawn (drawn_back c.draw_hung-foot.ensures.kept c.draw_hung-below.ensures.drawn) c.inwards-2.ensures.0
    (c.hand_at-hand.ensures _ _ (next_role _ _ _ _ _ _ _ c.requires.forked c.args.self.now.subtrees.sound c.requires.going)) c.requires.going

-- ---- draw_hung

pub draw_hung-returns-then-child-eq0-clause-drawn : goal.draw_hung-returns-then-child-eq0-clause-drawn
draw_hung-returns-then-child-eq0-clause-drawn t c = no_subtree _ _ _ _ _ _ (omega arith)

pub draw_hung-inwards-edge-requires : goal.draw_hung-inwards-edge-requires
draw_hung-inwards-edge-requires t c =
    column_drawn _ _ _ _ _ _ _ _ c.args.self.now.subtrees.sound (omega arith) c.requires.drawable

pub draw_hung-draw_left-requires : goal.draw_hung-draw_left-requires
draw_hung-draw_left-requires t c = (
  omega (arith, c.decreases),
  (drawable_hand c.in-Left.is (drawable_side _ _ _ _ _ _ _ _ _ c.inwards-edge.ensures.0 c.requires.drawable), omega arith),
)

pub draw_hung-draw_right-requires : goal.draw_hung-draw_right-requires
draw_hung-draw_right-requires t c = (
  omega (arith, c.decreases),
  (drawable_hand c.in-Right.is (drawable_side _ _ _ _ _ _ _ _ _ c.inwards-edge.ensures.0 c.requires.drawable), omega arith),
)

pub draw_hung-returns-in-Left-clause-drawn : goal.draw_hung-returns-in-Left-clause-drawn
draw_hung-returns-in-Left-clause-drawn t c =
    drawn_side _ _ _ _ _ _ _ _ _ _ c.inwards-edge.ensures.0 (drawn_hand c.in-Left.is c.draw_left.ensures.drawn)

pub draw_hung-returns-in-Right-clause-drawn : goal.draw_hung-returns-in-Right-clause-drawn
draw_hung-returns-in-Right-clause-drawn t c =
    drawn_side _ _ _ _ _ _ _ _ _ _ c.inwards-edge.ensures.0 (drawn_hand c.in-Right.is c.draw_right.ensures.drawn)

-- ---- draw_spine

pub draw_spine-hand_at-requires-clause-at_bound :
    goal.draw_spine-hand_at-requires-clause-at_bound
draw_spine-hand_at-requires-clause-at_bound t c =
    root_below _ _ _ c.args.self.now.subtrees.sound _ _ _ _ c.requires.drawable c.requires.root_nonzero _ refl

pub draw_spine-loop-walk-init : goal.draw_spine-loop-walk-init
draw_spine-loop-walk-init t c =
    let sound = c.args.self.now.subtrees.sound in
    let hand = c.hand_at in (
      record { table = refl; roles = refl; widest = refl; same = refl; long = refl },
      walked_start _ _ _ sound _ _
          (going_start _ _ _ sound _ _ _ _ c.requires.drawable c.requires.root_nonzero _ c.from.ensures hand.result hand.ensures)
          c.requires.root_nonzero refl,
    )

pub draw_spine-loop-walk-preserved : goal.draw_spine-loop-walk-preserved
draw_spine-loop-walk-preserved t c =
    let k = c.loop-walk.invariant.0 in
    let l = c.loop-walk.invariant.1 in (
      kept_on c.step-walk.ensures.kept k,
      walked_on _ _ _ _ _ _ _ _ _ l (stepped_back k (c.step-walk.ensures.stepped _ (going_kept k l.going))) c.step-walk.ensures.kept.long,
    )

pub draw_spine-overflow_add-walk : goal.draw_spine-overflow_add-walk
draw_spine-overflow_add-walk t c =
    omega (arith, (drawable_end _ _ _ _ c.loop-walk-test.false _ c.loop-walk.invariant.1.going).rows)

pub draw_spine-draw_hung-requires : goal.draw_spine-draw_hung-requires
draw_spine-draw_hung-requires t c =
    let k = c.loop-walk.invariant.0 in
    let l = c.loop-walk.invariant.1 in (
      omega (arith, c.decreases, l.one_less, ap (λ (t : List ℕ). size (tree_at t c.loop-walk.walk.pending)) k.table),
      drawable_kept k (drawable_end _ _ _ _ c.loop-walk-test.false _ l.going),
    )

pub draw_spine-returns-clause-drawn : goal.draw_spine-returns-clause-drawn
draw_spine-returns-clause-drawn t c =
    let hand = c.hand_at in
    drawn_start _ _ _ c.args.self.now.subtrees.sound _ _ _ _ c.requires.drawable c.requires.root_nonzero _ c.from.ensures hand.result hand.ensures
    _ _ _ (walked_end _ _ _ _ _ _ _ _ _ c.loop-walk.invariant.1 c.loop-walk-test.false
    (drawn_back c.loop-walk.invariant.0 c.draw_hung.ensures.drawn))

-- ---- step

pub step-role_at-role-requires-clause-at_bound : goal.step-role_at-role-requires-clause-at_bound
step-role_at-role-requires-clause-at_bound t c = role_below _ _ _ _ _ _ _ c.fork_at-fork.ensures _ c.requires.going.1

pub step-at_knee-requires : goal.step-at_knee-requires
step-at_knee-requires t c =
    let role = c.role_at-role in
    let is = knee_is (role_of role.result) (sym c.is_knee.ensures ∙ c.if-is_knee.true) in
    let going = going_as _ _ _ _ _ _ _ c.fork_at-fork.ensures role.result knee role.ensures is c.requires.going in
    (omega (arith, c.decreases), (going, c.fork_at-fork.ensures))

pub step-at_switch-requires : goal.step-at_switch-requires
step-at_switch-requires t c =
    let role = c.role_at-role in
    let is = switch_is (role_of role.result) (sym c.is_switch.ensures ∙ c.if-is_switch.true) in
    let going = going_as _ _ _ _ _ _ _ c.fork_at-fork.ensures role.result switch role.ensures is c.requires.going in
    (omega (arith, c.decreases), (going, c.fork_at-fork.ensures))

pub step-at_ordinary-requires : goal.step-at_ordinary-requires
step-at_ordinary-requires t c =
    let role = c.role_at-role in
    let is = ordinary_is (role_of role.result) (sym c.is_knee.ensures ∙ c.if-is_knee.false)
    (sym c.is_switch.ensures ∙ c.if-is_switch.false) in
    let going = going_as _ _ _ _ _ _ _ c.fork_at-fork.ensures role.result ordinary role.ensures is c.requires.going in
    (omega (arith, c.decreases), (going, c.fork_at-fork.ensures))

pub step-returns-then-is_knee-clause-stepped : goal.step-returns-then-is_knee-clause-stepped
step-returns-then-is_knee-clause-stepped t c =
    let role = c.role_at-role in
    let is = knee_is (role_of role.result) (sym c.is_knee.ensures ∙ c.if-is_knee.true) in
    stepped_for _ _ _ _ _ _ _ c.fork_at-fork.ensures role.result knee role.ensures is _ _ _ c.at_knee.ensures.stepped

pub step-returns-then-is_switch-clause-stepped : goal.step-returns-then-is_switch-clause-stepped
step-returns-then-is_switch-clause-stepped t c =
    let role = c.role_at-role in
    let is = switch_is (role_of role.result) (sym c.is_switch.ensures ∙ c.if-is_switch.true) in
    stepped_for _ _ _ _ _ _ _ c.fork_at-fork.ensures role.result switch role.ensures is _ _ _ c.at_switch.ensures.stepped

pub step-returns-clause-stepped : goal.step-returns-clause-stepped
step-returns-clause-stepped t c =
    let role = c.role_at-role in
    let is = ordinary_is (role_of role.result) (sym c.is_knee.ensures ∙ c.if-is_knee.false)
    (sym c.is_switch.ensures ∙ c.if-is_switch.false) in
    stepped_for _ _ _ _ _ _ _ c.fork_at-fork.ensures role.result ordinary role.ensures is _ _ _ c.at_ordinary.ensures.stepped
