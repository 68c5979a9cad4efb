-- Demand 3 of the running code, from what the drawer and the check ensure: `guaranteed`. Rests on `kept`.
use mathlib.Core.Path.{◌≡◌, refl, sym, ap, subst, ◌∙◌}
use mathlib.Core.Logic.{inl}
use mathlib.Core.List.{List}
use Prim.Native.Nat.{ℕ, ◌≤◌}
use lib.ListN.{length}
use Rattle.table.specs.Table.{chain}
use Rattle.table.specs.Refusal.{refusal}
use Rattle.drawing.specs.declared.Drawn.{Drawn as CodeDrawn}
use Rattle.drawing.specs.Answer.{Drawn, said, drawn_of, placed_in}
use Rattle.drawing.proofs.Answered.{refused, drawn_refusal}
use Rattle.std.specs.Prelude.{Option, Result}
use Rattle.table.specs.declared.Refusal.{Refusal}
use Rattle.verdict.specs.declared.Fault.{Fault}
use Rattle.verdict.specs.Fault.{verdict_number}
use Rattle.verdict.specs.Verdict.{Verdict}
use Rattle.verdict.proofs.Unique.{verdict_unique}
use Rattle.width.specs.Allowed.{allowed_width}
use Rattle.guarantee.specs.Demand.{Kept, Guaranteed}
use Rattle.guarantee.proofs.Demand3.{kept}

pub guaranteed : (t p : List ℕ) (d : CodeDrawn) (v : Result (Option Fault) Refusal) (p' : List ℕ) → said d ≡ drawn_of t p → p' ≡ placed_in t p →
    Verdict t p' (verdict_number v) → Guaranteed t p (record { drawn = d; verdict = v }) p'
guaranteed t p d v p' drawn after verdict = record {
  drawn = drawn;
  after = after;
  accepted = λ e. let k : Kept t p = kept t p (sym (ap (λ (d : Drawn). d.refusal) drawn) ∙ e) in (
    verdict_unique t p' verdict (subst (λ (q : List ℕ). Verdict t q 0) (sym after) k.good),
    (
      subst (λ (d : Drawn). d.plan.width ≤ allowed_width (length (chain t))) (sym drawn) k.narrow,
      subst (λ (d : Drawn). d.plan.height ≤ length (chain t)) (sym drawn) k.short,
    ),
  );
  refused = λ n. let as_lent : p' ≡ p = after ∙ (refused t p (λ e. n (number ∙ e))).after in
      (verdict_unique t p (subst (λ (q : List ℕ). Verdict t q (verdict_number v)) as_lent verdict) (inl (λ e. n (number ∙ e), refl)) ∙ sym number, as_lent);
}
  where
    number : (said d).refusal ≡ refusal t (length p)
    number = ap (λ (d : Drawn). d.refusal) drawn ∙ drawn_refusal t p
