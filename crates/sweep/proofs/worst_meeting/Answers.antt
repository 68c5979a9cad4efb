-- `worst_meeting`: by the first search, or the lines are clear, or by a search to the end. Rests on Seeing.
use Rattle.sweep.proofs.Seeing.{settled_seen, seen_worst}
use Rattle.sweep.proofs.worst_meeting.Goals as goal

pub returns : goal.returns
returns c =
    let f = c.search_first in
    let g = c.surely_clear in
    let s = c.settle in
    let found = seen_worst s.auto.lines (settled_seen s.ensures) (rw c.unwrap.ensures at c.worst.ensures.worst) in
    seen_worst f.auto.lines f.ensures.seen (seen_worst g.auto.lines g.ensures.seen found)
