-- The first condition that holds, of lines in any order, and of the table whose lines they are. Rests on Places, on the laws of the four kinds and on those
-- of rearrangements.
use mathlib.Core.Path.{◌≡◌, refl, sym}
use mathlib.Core.Logic.Iff
use mathlib.Core.Bool.{Bool, true, false}
use lib.Dec.{T}
use mathlib.Core.Logic.{◌↔◌, inl, inr, ⊎_elim}
use mathlib.Core.List.{List, [], ◌∷◌}
use Prim.Native.Nat.{ℕ, ◌≤◌}
use native.Mathlib.Omega.{arith}
use lib.ListN.{length, get_or}
use Rattle.segment.specs.declared.Point.{Point}
use Rattle.segment.specs.declared.meeting.Meeting.{Meeting}
use Rattle.segment.specs.declared.meeting.Meeting.TheVariants.{Separate, SharedEnd, Crossing, Touching}
use Rattle.segment.specs.Segment.{Clash}
use Rattle.segment.specs.Meeting.{Crosses}
use Rattle.segment.proofs.Clashing.{clash_exchange}
use Rattle.segment.proofs.Crossing.{crosses_exchange}
use Rattle.segment.proofs.FourKinds.{some_kind, touches→clash}
use Rattle.sort.specs.inner.Order.{Rearranged, Below, Pairs}
use Rattle.sort.proofs.Rearranging.{any_one, any_two}
use Rattle.line.specs.inner.Line.{start_of, end_of, last}
use Rattle.sweep.specs.inner.Meetings.{grade, Worst}
use Rattle.sweep.proofs.Grades.{clash_graded}
use Rattle.records.specs.inner.Reading.{Nodes}
use Rattle.verdict.specs.Conditions.{SamePoint, ChildAbove, OutOfOrder}
use Rattle.verdict.specs.Verdict.{numbered, FirstOf, conditions}
use Rattle.std.specs.Prelude.{Option}
use Rattle.std.specs.Bool.{then_some}
use Rattle.verdict.specs.declared.Fault.{Fault}
use Rattle.verdict.specs.declared.Fault.TheVariants.{OutOfOrder as Disorder}
use Rattle.verdict.specs.Fault.{number_of, fault_number}
use Rattle.verdict.specs.inner.Steps.{LinesOf, FirstNodes, FirstLines, Rises, Two, line_conditions, worst_verdict}
use Rattle.verdict.proofs.Faults.{some_number}
use Rattle.verdict.proofs.Places.{all_nodes, all_lines, same_ends, rising, crossing, clashing}

-- ---- the conditions of lines

abbrev Same : ℕ → List ℕ → Type 0
Same n l = Pairs n (λ i j. last (get_or l i 0) ≡ last (get_or l j 0))

abbrev Rising : ℕ → List ℕ → Type 0
Rising n l = Below n (λ i. Rises (get_or l i 0))

-- The same lines in another order, with the length as the code has it.
module _ {n m : ℕ} {a b : List ℕ} (r : Rearranged n a b) (e : m ≡ n) where
  same_moved : Same m b ↔ Same n a
  same_moved = rw e (Iff.symm (any_two (λ x y. last x ≡ last y) (λ x y. sym) r))

  rising_moved : Rising m b ↔ Rising n a
  rising_moved = rw e (Iff.symm (any_one Rises r))

  two_moved : (R : Point → Point → Point → Point → Type 0) → ((A B C D : Point) → R A B C D → R C D A B) → Two R m b ↔ Two R n a
  two_moved R exchange = rw e (Iff.symm (any_two (λ x y. R (start_of x) (end_of x) (start_of y) (end_of y)) (λ x y. exchange _ _ _ _) r))

  cross_moved : Two Crosses m b ↔ Two Crosses n a
  cross_moved = two_moved Crosses (λ A B C D. crosses_exchange)

  clash_moved : Two Clash m b ↔ Two Clash n a
  clash_moved = two_moved Clash (λ A B C D. clash_exchange)

  pub first_moved : {v : ℕ} → FirstOf (line_conditions m b) v → FirstOf (line_conditions n a) v
  first_moved (inl (s, z)) = inl (same_moved.0 s, z)
  first_moved (inr (s, inl (x, z))) = inr (λ y. s (same_moved.1 y), inl (rising_moved.0 x, z))
  first_moved (inr (s, inr (x, y))) = inr (λ z. s (same_moved.1 z), inr (λ z. x (rising_moved.1 z), last_moved y))
    where
      last_moved : {v : ℕ} → FirstOf (numbered 23 (Two Crosses m b) ∷ numbered 25 (Two Clash m b) ∷ []) v →
          FirstOf (numbered 23 (Two Crosses n a) ∷ numbered 25 (Two Clash n a) ∷ []) v
      last_moved (inl (c, z)) = inl (cross_moved.0 c, z)
      last_moved (inr (c, inl (d, z))) = inr (λ y. c (cross_moved.1 y), inl (clash_moved.0 d, z))
      last_moved (inr (c, inr (d, z))) = inr (λ y. c (cross_moved.1 y), inr (λ y. d (clash_moved.1 y), z))

-- ---- what the worst meeting says of crossings and clashes

no_crossing : {n : ℕ} {l : List ℕ} {m : Meeting} → grade m ≤ 1 → Worst n l m → Two Crosses n l → ⊥
no_crossing g w (j, h, (i, k, c)) = omega (arith, (w.none_worse i j k h).no_worse Crossing c)

no_clash : {n : ℕ} {l : List ℕ} {m : Meeting} → grade m ≡ 0 → Worst n l m → Two Clash n l → ⊥
no_clash {l = l} g w (j, h, (i, k, c)) =
    let z = some_kind (start_of (get_or l i 0)) (end_of (get_or l i 0)) (start_of (get_or l j 0)) (end_of (get_or l j 0)) in
    omega (arith, (clash_graded z.0 _ _ _ _ z.1).0 c, (w.none_worse i j k h).no_worse z.0 z.1)

-- The last two conditions, and all of them with the answers of the searches before.
by_worst : {n : ℕ} {l : List ℕ} (m : Meeting) → Worst n l m → FirstOf (numbered 23 (Two Crosses n l) ∷ numbered 25 (Two Clash n l) ∷ []) (worst_verdict m)
by_worst Separate w = inr (no_crossing (omega arith) w, inr (no_clash refl w, refl))
by_worst SharedEnd w = inr (no_crossing (omega arith) w, inr (no_clash refl w, refl))
by_worst Crossing w = inl (⊎_elim (λ z. absurd (omega arith)) (λ z. z) w.found, refl)
by_worst Touching w = inr (
  no_crossing (omega arith) w,
  inl (⊎_elim (λ z. absurd (omega arith)) (λ z. let p = z.2 in (z.0, z.1, (p.0, p.1, touches→clash p.2))) w.found, refl),
)

pub worst_first : {n v : ℕ} {l : List ℕ} (m : Meeting) → (Same n l → ⊥) → (Rising n l → ⊥) → Worst n l m → v ≡ worst_verdict m → FirstOf (line_conditions n l) v
worst_first m s r w e = inr (s, inr (r, rw e (by_worst m w)))

-- ---- the first of the lines is the first of the table

module _ {t p nodes ls : List ℕ} (l : Nodes t nodes) (x : LinesOf t p nodes ls) where
  all : FirstNodes t (length nodes) nodes
  all = all_nodes l

  lines : FirstLines t p (length nodes) nodes ls
  lines = all_lines x

  apart : (Same (length nodes) ls → ⊥) → SamePoint t p → ⊥
  apart s y = s ((same_ends p all lines).1 y)

  none_above : (Rising (length nodes) ls → ⊥) → ChildAbove t p → ⊥
  none_above r y = r ((rising p all lines).1 y)

  pub some_fault : (f : Fault) → FirstOf (line_conditions (length ls) ls) (number_of f) → FirstOf (conditions t p) (number_of f)
  some_fault f a = go (rw x.long at a)
    where
      go : FirstOf (line_conditions (length nodes) ls) (number_of f) → FirstOf (conditions t p) (number_of f)
      go (inl (s, e)) = inl ((same_ends p all lines).0 s, e)
      go (inr (s, inl (r, e))) = inr (apart s, inl ((rising p all lines).0 r, e))
      go (inr (s, inr (r, inl (c, e)))) = inr (apart s, inr (none_above r, inl ((crossing p all lines).0 c, e)))
      go (inr (s, inr (r, inr (c, inl (d, e))))) =
          inr (apart s, inr (none_above r, inr (λ y. c ((crossing p all lines).1 y), inl ((clashing p all lines (apart s)).0 d, e))))
      go (inr (s, inr (r, inr (c, inr (d, e))))) = absurd (some_number f e)

  -- Without a fault of the lines, 24 is what is left.
  pub no_fault : {w : ℕ} → FirstOf (line_conditions (length ls) ls) 0 → FirstOf (numbered 24 (OutOfOrder t p) ∷ []) w → FirstOf (conditions t p) w
  no_fault {w} a o = go (rw x.long at a)
    where
      go : FirstOf (line_conditions (length nodes) ls) 0 → FirstOf (conditions t p) w
      go (inl (s, e)) = absurd (omega arith)
      go (inr (s, inl (r, e))) = absurd (omega arith)
      go (inr (s, inr (r, inl (c, e)))) = absurd (omega arith)
      go (inr (s, inr (r, inr (c, inl (d, e))))) = absurd (omega arith)
      go (inr (s, inr (r, inr (c, inr (d, e))))) =
          inr (apart s, inr (none_above r, inr (λ y. c ((crossing p all lines).1 y), inr (λ y. d ((clashing p all lines (apart s)).1 y), o))))

-- 24 or none, by the answer of the search.
pub order_fault : {t p : List ℕ} (b : Bool) {r : Option Fault} → T b ↔ OutOfOrder t p → r ≡ then_some b Disorder →
    FirstOf (numbered 24 (OutOfOrder t p) ∷ []) (fault_number r)
order_fault {t} {p} b h e = rw e (go b h)
  where
    go : (b : Bool) → T b ↔ OutOfOrder t p → FirstOf (numbered 24 (OutOfOrder t p) ∷ []) (fault_number (then_some b Disorder))
    go true h = inl (h.0 tt, refl)
    go false h = inr (h.1, refl)
