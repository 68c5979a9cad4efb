-- Meetings by how bad they are: the worst of some lines, and of one more. Rests on the laws of segments apart and of the four kinds.
use mathlib.Core.Path.{◌≡◌, refl, sym, ap, subst, ◌∙◌}
use mathlib.Core.Logic.{◌↔◌, ◌≢◌, ◌⊎◌, inl, inr, ⊎_elim, ⊎_map}
use mathlib.Core.List.{List}
use Prim.Native.Nat.{ℕ, ◌+◌, ◌≤◌, ◌<◌, min, max}
use native.Mathlib.Decide.{dec_lt, ℕ_discrete}
use native.Mathlib.Omega.{arith}
use lib.ListN.{get_or}
use Rattle.segment.specs.declared.Point.{Point}
use Rattle.segment.specs.declared.meeting.Meeting.{Meeting}
use Rattle.segment.specs.declared.meeting.Meeting.TheVariants.{Separate, SharedEnd, Crossing, Touching}
use Rattle.segment.specs.Segment.{Share, Clash}
use Rattle.segment.specs.Meeting.{Crosses, MeetSo}
use Rattle.segment.specs.inner.Test.{number}
use Rattle.segment.proofs.SharedPoint.{share_exchange}
use Rattle.segment.proofs.Clashing.{clash_exchange}
use Rattle.segment.proofs.Separate.{columns_apart, number_once, numbers_apart}
use Rattle.segment.proofs.Crossing.{crosses→clash}
use Rattle.segment.proofs.FourKinds.{one_kind, some_kind, touches→clash}
use Rattle.sort.specs.inner.Order.{Below, Pairs, Ascending}
use Rattle.line.specs.inner.Line.{start_of, end_of, first, last, Onward}
use Rattle.sweep.specs.inner.Meetings.{grade, WorseWith, Met, NoWorse, WorstFrom, Worst}
use Rattle.neighbours.specs.inner.Abreast.{NoClash}
use Rattle.line.proofs.Numbers.{number_first, number_last, start_fits, end_fits}

-- ---- kinds of meeting: all that is said of them by cases

pub worst_grade : (m k : Meeting) → grade m ≡ 2 → grade k ≤ grade m
worst_grade m Separate h = omega arith
worst_grade m SharedEnd h = omega arith
worst_grade m Crossing h = omega arith
worst_grade m Touching h = omega arith

-- A meeting is a fault where the lines clash.
pub clash_graded : (m : Meeting) (P Q R S : Point) → MeetSo m P Q R S → Clash P Q R S ↔ (1 ≤ grade m)
clash_graded Separate P Q R S a = (λ c. absurd (a c.share), λ h. absurd (omega arith))
clash_graded SharedEnd P Q R S a = (λ c. absurd (a.no_clash c), λ h. absurd (omega arith))
clash_graded Crossing P Q R S a = (λ c. omega arith, λ h. crosses→clash a)
clash_graded Touching P Q R S a = (λ c. omega arith, λ h. touches→clash a)

-- Without a crossing a meeting is no worse than a touch.
uncrossed_grade : (k : Meeting) (P Q R S : Point) → (Crosses P Q R S → ⊥) → MeetSo k P Q R S → grade k ≤ 1
uncrossed_grade Separate P Q R S h a = omega arith
uncrossed_grade SharedEnd P Q R S h a = omega arith
uncrossed_grade Crossing P Q R S h a = absurd (h a)
uncrossed_grade Touching P Q R S h a = omega arith

-- ---- the worse of a meeting found and another

pub worse_apart : (a : Meeting) {P Q R S : Point} → (Share P Q R S → ⊥) → WorseWith a P Q R S a
worse_apart a h = record { met = Separate; so = h; either = inl refl; first = omega arith; second = omega arith }

pub worse_new : (a m : Meeting) {P Q R S : Point} → grade a ≤ grade m → MeetSo m P Q R S → WorseWith a P Q R S m
worse_new a m h x = record { met = m; so = x; either = inr refl; first = h; second = omega arith }

-- Where lines touch and the others do not cross, and where they cross.
pub worse_kept : (a : Meeting) {P Q R S : Point} → grade a ≢ 0 → (Crosses P Q R S → ⊥) → WorseWith a P Q R S a
worse_kept a {P} {Q} {R} {S} h x = let k = some_kind P Q R S in
    record { met = k.0; so = k.1; either = inl refl; first = omega arith; second = omega (arith, uncrossed_grade k.0 P Q R S x k.1) }

pub worse_touching : (a : Meeting) {P Q R S : Point} → a ≡ Touching → (Crosses P Q R S → ⊥) → WorseWith a P Q R S a
worse_touching a e x = worse_kept a (λ z. let t = rw e at z in omega (arith, t)) x

pub worse_crossing : (a : Meeting) {P Q R S : Point} → a ≡ Crossing → WorseWith a P Q R S a
worse_crossing a {P} {Q} {R} {S} e = let k = some_kind P Q R S in record {
  met = k.0;
  so = k.1;
  either = inl refl;
  first = omega arith;
  second = rw e (worst_grade Crossing k.0 refl);
}

-- ---- no worse

met_no_worse : (m k : Meeting) (x y : ℕ) → Met k x y → grade k ≤ grade m → NoWorse m x y
met_no_worse m k x y a h = record {
  no_worse = λ z b. subst (λ (w : Meeting). grade w ≤ grade m) (one_kind k z (start_of x) (end_of x) (start_of y) (end_of y) a b)
      h;
}

apart_no_worse : (m : Meeting) (x y : ℕ) → (Clash (start_of x) (end_of x) (start_of y) (end_of y) → ⊥) → NoWorse m x y
apart_no_worse m x y h = record {
  no_worse = λ k a. let n : (1 ≤ grade k) →
      ⊥ = λ g. h ((clash_graded k (start_of x) (end_of x) (start_of y) (end_of y) a).1 g) in omega arith;
}

no_worse_up : {m r : Meeting} {x y : ℕ} → grade m ≤ grade r → NoWorse m x y → NoWorse r x y
no_worse_up h n = record { no_worse = λ k a. omega (arith, n.no_worse k a) }

-- ---- lines whose columns or numbers are apart

pub beside_apart : {P Q R S : Point} {low high : ℕ} → low ≡ min P.column Q.column → high ≡ max P.column Q.column →
    (max R.column S.column < low) ⊎ (high < min R.column S.column) → Share R S P Q → ⊥
beside_apart e f (inl h) x = columns_apart (omega arith) x
beside_apart e f (inr h) x = columns_apart (omega arith) (share_exchange x)

-- Line b ends at the number that line a starts at, or before it.
ended : (a b : ℕ) → first a ≤ last a → first b ≤ last b → last b ≤ first a → Clash (start_of b) (end_of b) (start_of a) (end_of a) → ⊥
ended a b h k l x = numbers_apart 65536 (start_fits a) (end_fits a) (end_fits b)
    (omega (arith, number_first a, number_last a)) (omega (arith, number_first b, number_last b)) (omega (arith, number_first a, number_last b))
    (clash_exchange x)

-- Line b ends after line a starts, and not after line a ends: a common end starts both or ends both.
pub ends_apart : {P Q R S : Point} (a b : ℕ) → P ≡ start_of a → Q ≡ end_of a → R ≡ start_of b → S ≡ end_of b → first a < last b → first b ≤ last b →
    last b ≤ last a → (S ≢ P) × (R ≡ Q → S ≡ Q)
ends_apart a b p q r s h k l = (
  λ e. omega (arith, number_first a, number_last b, ap (number 65536) (sym s ∙ e ∙ p)),
  λ e. s ∙ number_once 65536 (end_fits b) (end_fits a) (omega (arith, number_first b, number_last a, number_last b, ap (number 65536) (sym r ∙ e ∙ q))) ∙ sym q,
)

-- ---- the worst meeting with line i, from the line before it downwards

pub from_more : {j k i : ℕ} {l : List ℕ} {w m r : Meeting} → j < i → k ≡ j + 1 → WorstFrom k i l w m →
    WorseWith m (start_of (get_or l j 0)) (end_of (get_or l j 0)) (start_of (get_or l i 0)) (end_of (get_or l i 0)) r → WorstFrom j i l w r
from_more {j} {k} {i} {l} {w} {m} {r} h e' f b =
    record { found = ⊎_elim old new b.either; no_better = omega (arith, f.no_better, b.first); none_worse = λ x g k. go x g k (ℕ_discrete x j) }
  where
    old : r ≡ m → (r ≡ w) ⊎ Below i (λ x. Met r (get_or l x 0) (get_or l i 0))
    old e = subst (λ (z : Meeting). (z ≡ w) ⊎ Below i (λ x. Met z (get_or l x 0) (get_or l i 0))) (sym e) f.found

    new : r ≡ b.met → (r ≡ w) ⊎ Below i (λ x. Met r (get_or l x 0) (get_or l i 0))
    new e = inr (j, h, subst (λ (z : Meeting). Met z (get_or l j 0) (get_or l i 0)) (sym e) b.so)

    go : (x : ℕ) → j ≤ x → x < i → Dec (x ≡ j) → NoWorse r (get_or l x 0) (get_or l i 0)
    go x g k (yes e) = subst (λ (n : ℕ). NoWorse r (get_or l n 0) (get_or l i 0)) (sym e) (met_no_worse r b.met (get_or l j 0) (get_or l i 0) b.so b.second)
    go x g k (no e) = no_worse_up b.first (f.none_worse x (omega arith) k)

-- A line that ends where line i starts, or before, and those before it, are apart from line i.
pub from_ended : {n j m i : ℕ} {l : List ℕ} {w r : Meeting} → Onward n l → Ascending last n l → i < n → j < i →
    last (get_or l j 0) ≤ first (get_or l i 0) → m ≡ j + 1 → WorstFrom m i l w r → WorstFrom 0 i l w r
from_ended {n} {j} {m} {i} {l} {w} {r} o s h k e e' f = record { found = f.found; no_better = f.no_better; none_worse = λ a g b. go a b (dec_lt j a) }
  where
    before : (a : ℕ) → a ≤ j → Dec (a ≡ j) → last (get_or l a 0) ≤ last (get_or l j 0)
    before a g (yes z) = rw z (omega arith)
    before a g (no z) = s.rises a j (omega arith) (omega arith)

    go : (a : ℕ) → a < i → Dec (j < a) → NoWorse r (get_or l a 0) (get_or l i 0)
    go a b (yes z) = f.none_worse a (omega arith) b
    go a b (no z) = apart_no_worse r (get_or l a 0) (get_or l i 0)
        (ended (get_or l i 0) (get_or l a 0) (o.onward i h) (o.onward a (omega arith)) (omega (arith, before a (omega arith) (ℕ_discrete a j))))

-- Points by what they are equal to.
pub worse_at : {P Q R S A B C D : Point} {a r : Meeting} → P ≡ A → Q ≡ B → R ≡ C → S ≡ D → WorseWith a P Q R S r → WorseWith a A B C D r
worse_at e f g h x = rw (← e, ← f, ← g, ← h) x

-- ---- the worst meeting of two lines

pub worst_more : {i : ℕ} {l : List ℕ} {w r : Meeting} → Worst i l w → WorstFrom 0 i l w r → Worst (i + 1) l r
worst_more {i} {l} {w} {r} f a = record { found = ⊎_elim old (λ p. inr (i, omega arith, p)) a.found; none_worse = λ x y h k. go x y h k (ℕ_discrete y i) }
  where
    wider : (z : Meeting) → Pairs i (λ x y. Met z (get_or l x 0) (get_or l y 0)) → Pairs (i + 1) (λ x y. Met z (get_or l x 0) (get_or l y 0))
    wider z (y, h, p) = (y, omega arith, p)

    old : r ≡ w → (grade r ≡ 0) ⊎ Pairs (i + 1) (λ x y. Met r (get_or l x 0) (get_or l y 0))
    old e = subst (λ (z : Meeting). (grade z ≡ 0) ⊎ Pairs (i + 1) (λ x y. Met z (get_or l x 0) (get_or l y 0))) (sym e) (⊎_map (λ z. z) (wider w) f.found)

    go : (x y : ℕ) → x < y → y < i + 1 → Dec (y ≡ i) → NoWorse r (get_or l x 0) (get_or l y 0)
    go x y h k (yes e) = subst (λ (n : ℕ). NoWorse r (get_or l x 0) (get_or l n 0)) (sym e) (a.none_worse x (omega arith) (omega arith))
    go x y h k (no e) = no_worse_up a.no_better (f.none_worse x y h (omega arith))

pub worst_at : {i n : ℕ} {l : List ℕ} {m : Meeting} → i ≡ n → Worst i l m → Worst n l m
worst_at {l = l} {m} e = subst (λ (k : ℕ). Worst k l m) e

-- No meeting is worse than the worst kind, whatever lines are left.
pub worst_utmost : {i n : ℕ} {l : List ℕ} {m : Meeting} → i ≤ n → grade m ≡ 2 → Worst i l m → Worst n l m
worst_utmost {i} {n} {l} {m} h g f = record {
  found = ⊎_map (λ z. z) (λ p. (p.0, omega (arith, p.1), p.2)) f.found;
  none_worse = λ x y a b. record { no_worse = λ k z. worst_grade m k g };
}

-- Lines without a clash.
pub worst_clear : {n : ℕ} {l : List ℕ} → NoClash n l → Worst n l Separate
worst_clear {n} {l} h = record { found = inl refl; none_worse = λ i j a b. apart_no_worse Separate (get_or l i 0) (get_or l j 0) (h.none i j a b) }
