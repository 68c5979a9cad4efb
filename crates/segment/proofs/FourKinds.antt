-- The four kinds of meeting exclude each other (`one_kind`) and leave nothing out (`some_kind`), for all natural coordinates; and what follows from a
-- common end. Rests on Crossing and Alike.
use mathlib.Core.Path.{◌≡◌, refl}
use mathlib.Core.Bool.{Bool, not, cond, ◌&&◌, ◌||◌}
use native.Mathlib.Omega.{arith}
use Rattle.segment.specs.declared.Point.{Point}
use Rattle.segment.specs.declared.meeting.Meeting.{Meeting}
use Rattle.segment.specs.declared.meeting.Meeting.TheVariants.{Separate, SharedEnd, Crossing, Touching}
use Rattle.segment.specs.Segment.{Share, Clash}
use Rattle.segment.specs.Meeting.{MeetsAtEnd, Crosses, Touches, MeetSo}
use Rattle.segment.proofs.Decides.{Decides, dec, not_decides, and_decides, or_decides, cond_decides, same_meaning}
use Rattle.segment.proofs.Weights.{at_start}
use Rattle.segment.proofs.SharedPoint.{meets, meets_decides_share, lies_decides}
use Rattle.segment.proofs.Clashing.{same, same_decides, common_end, no_common}
use Rattle.segment.proofs.Crossing.{crosses_decides, crosses→share, crosses→clash, no_common_start}
use Rattle.segment.proofs.Alike.{Alike, common_PR, common_PS, common_QR, common_QS}

-- ---- clashes, as a test that computes

-- the segments from P to A and from P to B share more than P (the code asks first whether the three points are in line)
unfoldable pub along : Point → Point → Point → Bool
along P A B = not (same P A) && (not (same P B) && (meets P B A A || meets P A B B))

-- the test of clashes
unfoldable pub clashes : Point → Point → Point → Point → Bool
clashes P Q R S = cond (same P R) (along P Q S) (cond (same P S) (along P Q R) (cond (same Q R) (along Q P S) (cond (same Q S) (along Q P R) (meets P Q R S))))

along_decides : (P A B : Point) → Decides (along P A B) (Clash P A P B)
unfolding along
along_decides P A B = same_meaning common_end
    (and_decides (not_decides (same_decides P A)) (and_decides (not_decides (same_decides P B)) (or_decides (lies_decides A P B) (lies_decides B P A))))

pub clashes_decides : (P Q R S : Point) → Decides (clashes P Q R S) (Clash P Q R S)
unfolding clashes
clashes_decides P Q R S =
    cond_decides (same_decides P R) (λ e. same_meaning (common_PR e).clash (along_decides P Q S)) (λ n₁.
    cond_decides (same_decides P S) (λ e. same_meaning (common_PS e).clash (along_decides P Q R)) (λ n₂.
    cond_decides (same_decides Q R) (λ e. same_meaning (common_QR e).clash (along_decides Q P S)) (λ n₃.
    cond_decides (same_decides Q S) (λ e. same_meaning (common_QS e).clash (along_decides Q P R)) (λ n₄.
    same_meaning (no_common n₁ n₂ n₃ n₄, λ c. c.share) (meets_decides_share P Q R S)))))

-- ---- they exclude each other

end_or_crossing : {P Q R S : Point} → MeetsAtEnd P Q R S → Crosses P Q R S → ⊥
end_or_crossing a b = a.no_clash (crosses→clash b)

pub one_kind : (k m : Meeting) (P Q R S : Point) → MeetSo k P Q R S → MeetSo m P Q R S → k ≡ m
one_kind Separate Separate P Q R S a b = refl
one_kind Separate SharedEnd P Q R S a b = absurd (a b.share)
one_kind Separate Crossing P Q R S a b = absurd (a (crosses→share b))
one_kind Separate Touching P Q R S a b = absurd (a b.share)
one_kind SharedEnd Separate P Q R S a b = absurd (b a.share)
one_kind SharedEnd SharedEnd P Q R S a b = refl
one_kind SharedEnd Crossing P Q R S a b = absurd (end_or_crossing a b)
one_kind SharedEnd Touching P Q R S a b = absurd (b.not_at_end a)
one_kind Crossing Separate P Q R S a b = absurd (b (crosses→share a))
one_kind Crossing SharedEnd P Q R S a b = absurd (end_or_crossing b a)
one_kind Crossing Crossing P Q R S a b = refl
one_kind Crossing Touching P Q R S a b = absurd (b.not_crossing a)
one_kind Touching Separate P Q R S a b = absurd (b a.share)
one_kind Touching SharedEnd P Q R S a b = absurd (a.not_at_end b)
one_kind Touching Crossing P Q R S a b = absurd (a.not_crossing b)
one_kind Touching Touching P Q R S a b = refl

-- ---- they leave nothing out

pub touches_by : {P Q R S : Point} → Clash P Q R S → (Crosses P Q R S → ⊥) → Touches P Q R S
touches_by c x = record { share = c.share; not_at_end = λ e. e.no_clash c; not_crossing = x }

pub some_kind : (P Q R S : Point) → (m : Meeting) × MeetSo m P Q R S
some_kind P Q R S = go (dec (meets_decides_share P Q R S)) (dec (clashes_decides P Q R S)) (dec (crosses_decides P Q R S))
  where
    go : Dec (Share P Q R S) → Dec (Clash P Q R S) → Dec (Crosses P Q R S) → (m : Meeting) × MeetSo m P Q R S
    go (no s) c x = (Separate, s)
    go (yes s) (no c) x = (SharedEnd, record { share = s; no_clash = c })
    go (yes s) (yes c) (yes x) = (Crossing, x)
    go (yes s) (yes c) (no x) = (Touching, touches_by c x)

-- ---- the two that clash

pub touches→clash : {P Q R S : Point} → Touches P Q R S → Clash P Q R S
touches→clash {P} {Q} {R} {S} h = go (dec (clashes_decides P Q R S))
  where
    go : Dec (Clash P Q R S) → Clash P Q R S
    go (yes c) = c
    go (no c) = absurd (h.not_at_end (record { share = h.share; no_clash = c }))

-- ---- symmetries

pub alike_kind : (m : Meeting) {P Q R S A B C D : Point} → Alike P Q R S A B C D → MeetSo m P Q R S → MeetSo m A B C D
alike_kind Separate h a = λ s. a (h.share.1 s)
alike_kind SharedEnd h a = record { share = h.share.0 a.share; no_clash = λ c. a.no_clash (h.clash.1 c) }
alike_kind Crossing h a = h.crosses.0 a
alike_kind Touching h a = touches_by (h.clash.0 (touches→clash a)) (λ x. a.not_crossing (h.crosses.1 x))

-- ---- with a common end

pub joined_touching : {P A B : Point} → Clash P A P B → Touches P A P B
joined_touching c = touches_by c (λ x. (no_common_start x).0 refl)

pub joined_end : {P A B : Point} → (Clash P A P B → ⊥) → MeetsAtEnd P A P B
joined_end {P} {A} {B} n = record { share = record { q = 1; x = _; y = _; q≥1 = omega arith; on_PQ = at_start P A 1; on_RS = at_start P B 1 }; no_clash = n }
