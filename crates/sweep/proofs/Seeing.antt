-- Lines seen along an axis, and in another order: the worst meeting is the same. Rests on Grades, on the laws of the four kinds and on those of rearrangements.
use mathlib.Core.Path.{◌≡◌, sym}
use mathlib.Core.Logic.{◌⊎◌, inl, inr, ⊎_map}
use mathlib.Core.Bool.{Bool, true, false}
use mathlib.Core.List.{List}
use Prim.Native.Nat.{ℕ, ◌<◌}
use native.Mathlib.Omega.{arith}
use lib.ListN.{get_or, length}
use Rattle.std.specs.Prelude.{Option, None, Some, IfSome}
use Rattle.segment.specs.declared.Point.{Point}
use Rattle.segment.specs.declared.meeting.Meeting.{Meeting}
use Rattle.segment.specs.declared.meeting.Meeting.TheVariants.{Separate}
use Rattle.segment.proofs.Alike.{Alike, alike_same, alike_then, alike_back, alike_exchange, alike_turn_first, alike_transpose}
use Rattle.segment.proofs.FourKinds.{alike_kind}
use Rattle.sort.specs.inner.Order.{Rearranged}
use Rattle.sort.proofs.Rearranging.{turned, any_two, all_two}
use Rattle.line.specs.inner.Line.{start_of, end_of}
use Rattle.axis.specs.inner.Arranged.{view, Joined, Arranged, Settled}
use Rattle.sweep.specs.inner.Meetings.{Met, NoWorse, Worst, Seen}
use Rattle.sweep.proofs.Grades.{worst_at}

-- ---- the meeting of two lines seen along an axis

view_alike : (across : Bool) (P Q R S : Point) → Alike (view across P) (view across Q) (view across R) (view across S) P Q R S
view_alike true P Q R S = alike_back (alike_transpose P Q R S)
view_alike false P Q R S = alike_same

-- The ends of a line, in one order or the other.
abbrev Ends : ℕ → Point → Point → Type 0
Ends x P Q = ((start_of x ≡ P) × (end_of x ≡ Q)) ⊎ ((start_of x ≡ Q) × (end_of x ≡ P))

first_ends : {P Q R S : Point} (x : ℕ) → Ends x P Q → Alike (start_of x) (end_of x) R S P Q R S
first_ends x (inl (e, f)) = rw (e, f) alike_same
first_ends x (inr (e, f)) = rw (e, f) alike_turn_first

second_ends : {P Q R S : Point} (y : ℕ) → Ends y R S → Alike P Q (start_of y) (end_of y) P Q R S
second_ends y e = alike_then alike_exchange (alike_then (first_ends y e) alike_exchange)

joined_alike : {P Q R S : Point} {x y : ℕ} → Joined P Q x → Joined R S y → Alike (start_of x) (end_of x) (start_of y) (end_of y) P Q R S
joined_alike {x = x} {y} a b = alike_then (first_ends x a.ends) (second_ends y b.ends)

-- ---- the worst meeting

met_symmetric : (m : Meeting) (x y : ℕ) → Met m x y → Met m y x
met_symmetric m x y a = alike_kind m alike_exchange a

no_worse_symmetric : (m : Meeting) (x y : ℕ) → NoWorse m x y → NoWorse m y x
no_worse_symmetric m x y n = record { no_worse = λ k a. n.no_worse k (met_symmetric k y x a) }

worst_rearranged : {n : ℕ} {a b : List ℕ} {m : Meeting} → Rearranged n a b → Worst n b m → Worst n a m
worst_rearranged {n} {a} {b} {m} r w = record {
  found = ⊎_map (λ z. z) (any_two (Met m) (met_symmetric m) r).1 w.found;
  none_worse = all_two (NoWorse m) (no_worse_symmetric m) (turned r) w.none_worse;
}

worst_arranged : {across : Bool} {n : ℕ} {a b : List ℕ} {m : Meeting} → Arranged across n a b → Worst n b m → Worst n a m
worst_arranged {across} {n} {a} {b} {m} r w = record {
  found = ⊎_map (λ z. z) (λ z. let p = z.2 in (z.0, z.1, (p.0, p.1, alike_kind m (same p.0 z.0 (omega (arith, z.1, p.1)) z.1) p.2)))
      w.found;
  none_worse = λ i j h k. record { no_worse = λ z x. (w.none_worse i j h k).no_worse z (alike_kind z (alike_back (same i j (omega arith) k)) x) };
}
  where
    same : (i j : ℕ) → i < n → j < n →
        Alike (start_of (get_or b i 0)) (end_of (get_or b i 0)) (start_of (get_or b j 0)) (end_of (get_or b j 0)) (start_of (get_or a i 0))
        (end_of (get_or a i 0))
        (start_of (get_or a j 0)) (end_of (get_or a j 0))
    same i j h k = alike_then (joined_alike (r.line i h) (r.line j k))
        (view_alike across (start_of (get_or a i 0)) (end_of (get_or a i 0)) (start_of (get_or a j 0)) (end_of (get_or a j 0)))

-- ---- lines settled

pub settled_seen : {n : ℕ} {a b : List ℕ} → Settled n a b → Seen n a b
settled_seen s = record { worst = λ m h. worst_arranged s.arranged (worst_rearranged s.moved h) }

pub seen_worst : {n k : ℕ} {a b : List ℕ} {m : Meeting} → k ≡ n → Seen n a b → Worst k b m → Worst n a m
seen_worst {m = m} e s h = s.worst m (worst_at e h)

-- The worst that a search finds, if it is not given up.
pub some_seen : {n k : ℕ} {a b : List ℕ} (r : Option Meeting) → k ≡ n → Seen n a b → IfSome r (λ m. Worst k b m) → IfSome r (λ m. Worst n a m)
some_seen None e s h = h
some_seen (Some m) e s h = seen_worst e s h

-- Lines that are found clear, seen as they are.
pub seen_clear : {a b : List ℕ} → Seen (length a) a b → length b ≡ length a → Worst (length b) b Separate → Worst (length a) a Separate
seen_clear s e h = seen_worst e s h

pub seen_then : {n k : ℕ} {a b c : List ℕ} → k ≡ n → Seen n a b → Seen k b c → Seen n a c
seen_then e s t = record { worst = λ m h. seen_worst e s (t.worst m (worst_at (sym e) h)) }
