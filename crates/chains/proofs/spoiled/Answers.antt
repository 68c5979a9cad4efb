-- `spoiled` answers cause 8.
use mathlib.Core.Path.{sym, ◌∙◌}
use Rattle.table.specs.Refusal.{bad_free}
use Rattle.chains.proofs.Zeros.{blank}
use Rattle.table.proofs.Causes.{none_free}
use Rattle.chains.proofs.Walking.{from_right}
use Rattle.chains.proofs.spoiled.Goals as goal

pub returns-then-first-eq0 : goal.returns-then-first-eq0
returns-then-first-eq0 c = sym (none_free _ (sym c.right-first.ensures.0 ∙ c.if-first-eq0.true))

pub walk-requires-clause-blank : goal.walk-requires-clause-blank
walk-requires-clause-blank c = blank

pub some_taken-requires-clause-listed : goal.some_taken-requires-clause-listed
some_taken-requires-clause-listed c = rw (from_right _ _ c.right-first.ensures.0) at c.in-Some.ensures.listed

pub returns-in-Some : goal.returns-in-Some
unfolding bad_free
returns-in-Some c = let l = rw (from_right _ _ c.right-first.ensures.0) at c.in-Some.ensures.listed in rw l.sound c.some_taken.ensures

pub returns-in-None : goal.returns-in-None
unfolding bad_free
returns-in-None c = rw (rw (from_right _ _ c.right-first.ensures.0) at c.in-None.ensures)
