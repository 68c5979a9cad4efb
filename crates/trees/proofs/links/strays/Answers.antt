-- `strays` answers cause 4, and counts the links. The loop keeps that no record passed has a stray link, and the counts of the links passed.
use mathlib.Core.Path.{◌≡◌, sym}
use mathlib.Core.Bool.{true, false, or-true}
use native.Mathlib.Omega.{arith}
use borrow.Author.Count.{below_none, below_more}
use lib.ListN.{take}
use Rattle.table.specs.Trees.{links}
use Rattle.table.specs.Refusal.{stray, bad_links}
use Rattle.chains.proofs.Scan.{scan_hit, scan_none, stray_by}
use Rattle.trees.proofs.Tally.{counts_none, counts_few, counts_few_more, counts_more, links_few, links_more, counted_all}
use Rattle.std.proofs.lemmas.Bool.{not_from_true, not_from_false}
use Rattle.trees.proofs.links.strays.Invariants.{strayed}
use Rattle.trees.proofs.links.strays.Goals as goal
use Rattle.trees.proofs.links.strays.Goals.{then-not-marked-via-then-not-marked, then-not-marked-via-else-not-marked+then-not-marked-2}

pub loop-node-init : goal.loop-node-init
unfolding links
loop-node-init c = record { passed = below_none _; counted = counts_none _ c.requires.blank }

pub returns-then-not-marked-clause-value : goal.returns-then-not-marked-clause-value
unfolding bad_links
returns-then-not-marked-clause-value c =
    let t = c.args.table.now in
    let hit = λ (e : strayed t c.from-k.result ≡ true).
    sym (scan_hit _ _ _ c.requires.listed (strayed t) _ c.loop-node-test.true (rw (← c.from-k.ensures) e)) in
    elim c.then-not-marked.branch [
      | then-not-marked-via-then-not-marked w ↦
          let e : stray t _ ≡ true =
          stray_by _ _ c.requires.listed _ c.requires.marked _ _ _ _ (not_from_false _ w.if-not-marked.true) c.marked.ensures c.left-l.ensures.0 in
          hit (rw e)
      | then-not-marked-via-else-not-marked+then-not-marked-2 w ↦
          let e : stray t _ ≡ true =
          stray_by _ _ c.requires.listed _ c.requires.marked _ _ _ _ (not_from_false _ w.if-not-marked-2.true) w.marked-else-not-marked.ensures
          c.right-r.ensures.0 in
          hit (rw (e, or-true))
    ]

pub tick-requires : goal.tick-requires
tick-requires c =
    omega (arith, counts_few _ _ c.left-l.result c.loop-node.invariant.counted, links_few _ _ c.requires.listed c.loop-node.node-index c.loop-node-test.true)

pub tick-requires-in-loop-node : goal.tick-requires-in-loop-node
tick-requires-in-loop-node c =
    let ks = links c.args.table.now (take c.loop-node.node-index c.args.chain.now) in
    let once = counts_more ks _ _ _ c.loop-node.invariant.counted c.tick.ensures in
    omega (arith, counts_few_more ks _ _ c.right-r.result once, links_few _ _ c.requires.listed c.loop-node.node-index c.loop-node-test.true)

pub loop-node-preserved : goal.loop-node-preserved
loop-node-preserved c =
    let t = c.args.table.now in
    let d : stray t _ ≡ false =
    stray_by _ _ c.requires.listed _ c.requires.marked _ _ _ _ (not_from_true _ c.if-not-marked.false) c.marked.ensures c.left-l.ensures.0 in
    let e : stray t _ ≡ false =
    stray_by _ _ c.requires.listed _ c.requires.marked _ _ _ _ (not_from_true _ c.if-not-marked-2.false) c.marked-else-not-marked.ensures
    c.right-r.ensures.0 in
    record {
      passed = below_more _ _ c.loop-node.invariant.passed (rw (← c.from-k.ensures) (rw (d, e)));
      counted = rw (
        links_more _ _ c.requires.listed c.loop-node.node-index c.loop-node-test.true,
        ← c.from-k.ensures,
        ← c.left-l.ensures.0,
        ← c.right-r.ensures.0,
      ) (counts_more _ _ _ _ (counts_more _ _ _ _ c.loop-node.invariant.counted c.tick.ensures) c.tick-in-loop-node.ensures);
    }

pub returns : goal.returns
unfolding bad_links
returns c =
    record {
      value = sym (scan_none _ _ _ c.requires.listed (strayed c.args.table.now) (λ j h. c.loop-node.invariant.passed j (omega arith)));
      tallied = λ z. counted_all _ _ c.requires.listed _ c.loop-node.node-index (omega arith) c.loop-node.invariant.counted;
    }
