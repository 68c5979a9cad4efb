-- `list_roots` lists the roots. The loop keeps `Noting`.
use native.Mathlib.Omega.{arith}
use Rattle.trees.proofs.Roots.{note_start, note_end, note_root, note_head, note_child}
use Rattle.trees.proofs.naming.list_roots.Goals as goal
use Rattle.trees.proofs.naming.list_roots.Goals.{then-k-root+then-tally-k-eq0, else-k-root}
use Rattle.trees.proofs.naming.list_roots.Goals.{else-k-root-via-then-k-root+else-tally-k-eq0, else-k-root-via-else-k-root}

pub loop-i-init : goal.loop-i-init
loop-i-init c =
    let r = c.requires in
    note_start _ _ r.listed _ r.root_value _ r.tallied _ (omega arith)

pub loop-i-preserved : goal.loop-i-preserved
loop-i-preserved c =
    let r = c.requires in
    elim c.if-k-root.branch [
      | then-k-root+then-tally-k-eq0 w ↦
          rw (w.roots-is, w.count-is)
          (note_root _ _ r.listed _ r.root_value _ r.tallied _ c.loop-i-test.true _ c.from-k.ensures _ _ c.loop-i.invariant (omega arith)
          w.if-k-root.true w.if-tally-k-eq0.true)
      | else-k-root w ↦
          rw (w.roots-is, w.count-is)
          elim w.else-k-root.branch [
            | else-k-root-via-then-k-root+else-tally-k-eq0 v ↦
                note_child _ _ r.listed _ r.root_value _ r.tallied _ c.loop-i-test.true _ c.from-k.ensures _ _ c.loop-i.invariant
                (omega arith) v.if-tally-k-eq0.false
            | else-k-root-via-else-k-root v ↦
                note_head _ _ r.listed _ r.root_value _ r.tallied _ c.loop-i-test.true _ c.from-k.ensures _ _ c.loop-i.invariant
                (omega arith) v.if-k-root.false
          ]
    ]

pub returns : goal.returns
returns c =
    let r = c.requires in
    note_end _ _ r.listed _ r.root_value _ r.tallied r.root_bound (omega arith) _ _ _ c.loop-i.invariant (omega arith)
