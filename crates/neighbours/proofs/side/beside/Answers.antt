-- `beside`: the line y of x, or x of y turned round. Rests on Ends.
use mathlib.Core.Path.{◌≡◌, ap, ◌∙◌}
use mathlib.Core.Logic.{inl, inr}
use Prim.Native.Nat.{ℕ, ◌<◌}
use native.Mathlib.Omega.{arith}
use Rattle.line.specs.inner.Line.{start_of, end_of, first, last}
use Rattle.neighbours.proofs.Ends.{start_first, start_last, beyond_at}
use Rattle.neighbours.proofs.side.beside.Goals as goal

-- The points that the numbers of a line's ends stand for.
start-at : (k r : ℕ) → r ≡ first k → start_of r ≡ start_of k
start-at k r e = ap start_of e ∙ start_first k

end-at : (k r : ℕ) → r ≡ last k → k < 18446744073709551616 → start_of r ≡ end_of k
end-at k r e h = ap start_of e ∙ start_last k h

pub returns-then-beyond : goal.returns-then-beyond
returns-then-beyond c = λ z.
    inl (beyond_at (start-at _ _ c.first-p.ensures) (end-at _ _ c.last-q.ensures (omega arith))
    (start-at _ _ c.first-r.ensures) (end-at _ _ c.last-s.ensures (omega arith)) (c.beyond.ensures z))

pub returns-else-beyond : goal.returns-else-beyond
returns-else-beyond c = λ z.
    inr (beyond_at (end-at _ _ c.last-s.ensures (omega arith)) (start-at _ _ c.first-r.ensures)
    (start-at _ _ c.first-p.ensures) (end-at _ _ c.last-q.ensures (omega arith)) (c.beyond-else-beyond.ensures z))
