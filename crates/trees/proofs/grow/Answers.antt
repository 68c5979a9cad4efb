-- `grow` answers whether cause 5 does not hold, and then lists the nodes.
use mathlib.Core.Path.{sym, ◌∙◌}
use native.Mathlib.Omega.{arith}
use Rattle.table.proofs.Causes.{sound_within}
use Rattle.table.proofs.Lists.{T_true}
use Rattle.chains.proofs.Scan.{marked_by}
use Rattle.trees.proofs.Rooting.{rootless, grown_bad, grown, off_chain, rooted}
use Rattle.trees.proofs.grow.Goals as goal

pub returns-then-root-eq0 : goal.returns-then-root-eq0
returns-then-root-eq0 c =
    rw c.is_empty.ensures (rootless _ _ _ c.requires.listed (sym c.left-root.ensures.0 ∙ c.if-root-eq0.true))

pub returns-then-not-marked : goal.returns-then-not-marked
returns-then-not-marked c =
    grown_bad _ _ _ (off_chain _ _ c.left-root.ensures.0 c.if-root-eq0.false
    (sym (marked_by _ _ _ _ c.if-root-eq0.false c.requires.marked c.marked.ensures) ∙ c.if-not-marked.true))

pub list_roots-requires-clause-root_bound : goal.list_roots-requires-clause-root_bound
list_roots-requires-clause-root_bound c =
    let r = c.requires in
    let h = sound_within _ r.listed.sound c.left-root.result ((T_true _).1
    (sym (marked_by _ _ _ _ c.if-root-eq0.false r.marked c.marked.ensures) ∙ c.if-not-marked.false)) in
    omega arith

pub reaches-requires-clause-rooted : goal.reaches-requires-clause-rooted
reaches-requires-clause-rooted c =
    let r = c.requires in
    let m = sym (marked_by _ _ _ _ c.if-root-eq0.false r.marked c.marked.ensures) ∙ c.if-not-marked.false in
    rooted _ _ c.left-root.ensures.0 c.if-root-eq0.false m c.in-Some.ensures.well r.listed.shaped r.listed.sound r.table_value

pub returns-in-Some : goal.returns-in-Some
returns-in-Some c =
    let m = sym (marked_by _ _ _ _ c.if-root-eq0.false c.requires.marked c.marked.ensures) ∙ c.if-not-marked.false in
    grown _ _ c.left-root.ensures.0 c.if-root-eq0.false m c.in-Some.ensures.well _ _ _ c.reaches.ensures.value c.reaches.ensures.ordered
