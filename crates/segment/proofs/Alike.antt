-- What is said of two segments is said of them from either end, for either first, and with rows for columns. Rests on Crossing.
use mathlib.Core.Path.{◌≡◌, subst}
use mathlib.Core.Logic.Iff
use mathlib.Core.Logic.{◌↔◌}
use Rattle.segment.specs.declared.Point.{Point}
use Rattle.segment.specs.Segment.{Share, Clash}
use Rattle.segment.specs.Meeting.{Crosses}
use Rattle.segment.specs.inner.Test.{transpose}
use Rattle.segment.proofs.SharedPoint.{share_exchange, share_turn, share_transpose}
use Rattle.segment.proofs.Clashing.{clash_exchange, clash_turn}
use Rattle.segment.proofs.Separate.{clash_transpose}
use Rattle.segment.proofs.Crossing.{crosses_exchange, crosses_turn, crosses_transpose}

-- Two pairs of segments of which the same is said.
pub record Alike (P Q R S A B C D : Point) : Type 0 where
  pub share : Share P Q R S ↔ Share A B C D
  pub clash : Clash P Q R S ↔ Clash A B C D
  pub crosses : Crosses P Q R S ↔ Crosses A B C D

pub alike_same : {P Q R S : Point} → Alike P Q R S P Q R S
alike_same = record { share = (λ x. x, λ x. x); clash = (λ x. x, λ x. x); crosses = (λ x. x, λ x. x) }

pub alike_then : {P Q R S A B C D E F G H : Point} → Alike P Q R S A B C D → Alike A B C D E F G H → Alike P Q R S E F G H
alike_then h k = record { share = Iff.trans h.share k.share; clash = Iff.trans h.clash k.clash; crosses = Iff.trans h.crosses k.crosses }

pub alike_back : {P Q R S A B C D : Point} → Alike P Q R S A B C D → Alike A B C D P Q R S
alike_back h = record { share = Iff.symm h.share; clash = Iff.symm h.clash; crosses = Iff.symm h.crosses }

pub alike_exchange : {P Q R S : Point} → Alike P Q R S R S P Q
alike_exchange = record { share = (share_exchange, share_exchange); clash = (clash_exchange, clash_exchange); crosses = (crosses_exchange, crosses_exchange) }

alike_turn : {P Q R S : Point} → Alike P Q R S P Q S R
alike_turn = record { share = (share_turn, share_turn); clash = (clash_turn, clash_turn); crosses = (crosses_turn, crosses_turn) }

pub alike_turn_first : {P Q R S : Point} → Alike P Q R S Q P R S
alike_turn_first = alike_then alike_exchange (alike_then alike_turn alike_exchange)

pub alike_transpose : (P Q R S : Point) → Alike P Q R S (transpose P) (transpose Q) (transpose R) (transpose S)
alike_transpose P Q R S = record {
  share = (share_transpose (transpose P) (transpose Q) (transpose R) (transpose S), share_transpose P Q R S);
  clash = (clash_transpose P Q R S, clash_transpose (transpose P) (transpose Q) (transpose R) (transpose S));
  crosses = (crosses_transpose P Q R S, crosses_transpose (transpose P) (transpose Q) (transpose R) (transpose S));
}

-- which two ends are the same
pub common_PR : {P Q R S : Point} → P ≡ R → Alike P Q P S P Q R S
common_PR {P} {Q} {R} {S} e = subst (λ (X : Point). Alike P Q P S P Q X S) e alike_same

pub common_PS : {P Q R S : Point} → P ≡ S → Alike P Q P R P Q R S
common_PS e = alike_then (common_PR e) alike_turn

pub common_QR : {P Q R S : Point} → Q ≡ R → Alike Q P Q S P Q R S
common_QR e = alike_then (common_PR e) alike_turn_first

pub common_QS : {P Q R S : Point} → Q ≡ S → Alike Q P Q R P Q R S
common_QS e = alike_then (common_PS e) alike_turn_first
