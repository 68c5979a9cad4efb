-- The law of each promise, a line each, in the order of specs/Promises.
use Rattle.segment.proofs.FourKinds.{one_kind, some_kind}
use Rattle.table.proofs.Accepted.{chain_ended, free_ended, tree_unfolds, nodes_chain, nodes_distinct}
use Rattle.width.proofs.FloorLog2.{floor_bounds, floor_unique, allowed_4096, allowed_most}
use Rattle.layout.proofs.Narrow.{place_narrow}
use Rattle.layout.proofs.Whole.{draw_law}
use Rattle.layout.proofs.Stacked.{rooted_below}
use Rattle.layout.proofs.OnSpine.{on_a_spine}
use Rattle.drawing.proofs.Elsewhere.{kept_elsewhere}
use Rattle.drawing.proofs.OffChain.{off_chain_drawn}
use Rattle.wide.proofs.Transposed.{wide_rooted}
use Rattle.wide.proofs.Elsewhere.{wide_kept_elsewhere, off_chain_wide}
use Rattle.verdict.proofs.Unique.{verdict_unique}
use Rattle.verdict.proofs.OffChain.{off_chain_verdict}
use Rattle.guarantee.proofs.Demand3.{kept}
use Rattle.guarantee.proofs.Corollary1.{wide_kept}
use Rattle.guarantee.proofs.Rows.{no_shared_rows, under_ruler, no_gaps}
use Rattle.pen.proofs.Exact.{only}
use Rattle.pen.proofs.Plotted.{plotted, strokes_number}
use Rattle.pen.proofs.OffChain.{off_chain_stroke}
use Rattle.hanging.proofs.OffChain.{off_chain_hang, off_chain_held}
use Rattle.cutting.proofs.OffChain.{off_chain_cut}
use Rattle.changes.proofs.Hanging.{hang_leaf}
use Rattle.changes.proofs.Cutting.{cut_leaf, cut_only}
use Rattle.changes.proofs.Restored.{cut_answers, restored}
use Rattle.changes.proofs.Halves.{second_half}
use Rattle.changes.proofs.Kept.{kept_all}
use Rattle.changes.proofs.OffChain.{off_chain_after}
use Rattle.changes.proofs.Elsewhere.{never_taken}
use Rattle.before.proofs.Tables.{narrowed, accepted_first, refusal_first_lem}
use Rattle.before.proofs.Plans.{drawn_before, drawn_first}
use Rattle.before.proofs.WidePlans.{wide_before_lem}
use Rattle.before.proofs.Verdicts.{recast}
use Rattle.fields.proofs.Decimal.{decimal_one, decimal_more}
use Rattle.text.proofs.Whole.{enough}
use Rattle.text.proofs.OffChain.{off_chain_text}
use Rattle.starred.proofs.Starred.{starred}
use Rattle.promises.specs.Promises.{Promises}

pub promises : Promises
promises = record {
  chains_whole = λ t ok n. (chain_ended t ok n, free_ended t ok n);
  trees_whole = tree_unfolds;
  trees_of_the_chain = λ t ok. (nodes_chain t ok, nodes_distinct t ok);
  drawn_by_steps = draw_law;
  flips_whole = place_narrow;
  one_floor = λ n k some. (floor_unique some, λ e. rw e (floor_bounds n some));
  digits_whole = λ n. (decimal_one n, decimal_more n);
  plain_keeps_others = kept_elsewhere;
  wide_keeps_others = wide_kept_elsewhere;
  never_taken = never_taken;
  off_chain_plain = off_chain_drawn;
  off_chain_wide = off_chain_wide;
  off_chain_verdict = off_chain_verdict;
  off_chain_stroke = off_chain_stroke;
  off_chain_hang = λ t u h. off_chain_hang h;
  off_chain_held = λ t u h. off_chain_held h;
  off_chain_cut = λ t u h. off_chain_cut h;
  off_chain_text = off_chain_text;
  off_chain_after = λ t u h. off_chain_after h;
  never_six = enough;
  one_verdict = λ t p v w. verdict_unique t p;
  starred_sheets = starred;
  accepted_is_good = kept;
  at_most37 = (allowed_4096, allowed_most);
  wide_is_good = wide_kept;
  lines_plotted_once = λ t p pitch k c s ok. plotted t p pitch ok;
  strokes_numbered = strokes_number;
  one_quarter = only;
  hangs_a_leaf = hang_leaf;
  cuts_a_leaf = cut_leaf;
  cuts_the_last = cut_only;
  cut_restores = λ t parent side tag bytes small h. (cut_answers t parent side tag h, restored t parent side tag bytes small h);
  calls_conserve = kept_all;
  accepted_first = accepted_first;
  refused_first = refusal_first_lem;
  plan_as_first = drawn_first;
  halves_hang = second_half;
  one_meeting = one_kind;
  some_meeting = some_kind;
  verdicts_recast = recast;
  roots_below = rooted_below;
  wide_roots_beside = wide_rooted;
  five_narrowed = narrowed;
  plan_as_before = drawn_before;
  wide_plan_as_before = wide_before_lem;
  rows_not_shared = no_shared_rows;
  ruler_covers = under_ruler;
  rows_filled = no_gaps;
  every_node_on_a_spine = on_a_spine;
}
