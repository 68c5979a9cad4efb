-- `search_first`: one search, or none; seen across twice, lines are as they were. Rests on Seeing.
use Rattle.sweep.proofs.Seeing.{settled_seen, some_seen, seen_then}
use Rattle.sweep.proofs.search_first.Goals as goal

pub returns-then-is_some : goal.returns-then-is_some
returns-then-is_some c =
    let s = c.settle in
    let seen = settled_seen s.ensures in
    record { worst = some_seen _ s.auto.lines seen c.worst-found.ensures.worst; seen = seen }

pub returns-clause-seen : goal.returns-clause-seen
returns-clause-seen c = let s = c.settle in seen_then s.auto.lines (settled_seen s.ensures) (settled_seen c.settle-2.ensures)
