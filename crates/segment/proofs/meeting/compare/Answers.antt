-- `segment::meeting::compare` meets its contract.
use mathlib.Core.Path.{◌≡◌}
use borrow.Author.Rules.{rules}
use Rattle.segment.proofs.Alike.{common_PR, common_PS, common_QR, common_QS}
use Rattle.segment.proofs.FourKinds.{alike_kind}
use Rattle.segment.proofs.meeting.compare.Goals as goal

pub returns-then-eq : goal.returns-then-eq
returns-then-eq c = let e : c.args.p ≡ c.args.r = search rules in alike_kind c.compare_joined.result (common_PR e) c.compare_joined.ensures

pub returns-then-eq-2 : goal.returns-then-eq-2
returns-then-eq-2 c = let e : c.args.p ≡ c.args.s = search rules in
    alike_kind c.compare_joined-then-eq-2.result (common_PS e) c.compare_joined-then-eq-2.ensures

pub returns-then-eq-3 : goal.returns-then-eq-3
returns-then-eq-3 c = let e : c.args.q ≡ c.args.r = search rules in
    alike_kind c.compare_joined-then-eq-3.result (common_QR e) c.compare_joined-then-eq-3.ensures

pub returns-then-eq-4 : goal.returns-then-eq-4
returns-then-eq-4 c = let e : c.args.q ≡ c.args.s = search rules in
    alike_kind c.compare_joined-then-eq-4.result (common_QS e) c.compare_joined-then-eq-4.ensures
