-- Document 02, Paper 7: "Good sheets are the same ones as before", what was 23 is 23 or 25, and every other verdict is as it was: `recast`. Rests on
-- Clashes, Decide and Unique.
use mathlib.Core.Path.{◌≡◌, refl, sym, subst}
use mathlib.Core.Logic.{◌≢◌, ◌⊎◌, inl, inr, ⊎_elim}
use mathlib.Core.List.{List}
use Prim.Native.Nat.{ℕ}
use native.Mathlib.Omega.{arith}
use lib.ListN.{length}
use Rattle.table.proofs.Causes.{refusal_below}
use Rattle.verdict.specs.Verdict.{FirstOf, conditions, Verdict}
use Rattle.before.specs.Verdicts.{conditions_before, VerdictBefore, Recast}
use Rattle.verdict.proofs.Clashes.{cross→clash}
use Rattle.verdict.proofs.Decide.{decided}
use Rattle.verdict.proofs.Unique.{answer_unique}

module _ (t p : List ℕ) where
  -- The condition that held first, before.
  first_before : {v : ℕ} → FirstOf (conditions t p) v → ((v ≡ 25) × FirstOf (conditions_before t p) 23) ⊎ ((v ≢ 25) × FirstOf (conditions_before t p) v)
  first_before (inl (a, e)) = inr (λ z. omega arith, inl (a, e))
  first_before (inr (a, inl (b, e))) = inr (λ z. omega arith, inr (a, inl (b, e)))
  first_before (inr (a, inr (b, inl (c, e)))) = inr (λ z. omega arith, inr (a, inr (b, inl (cross→clash c, e))))
  first_before (inr (a, inr (b, inr (c, inl (d, e))))) = inl (e, inr (a, inr (b, inl (d, refl))))
  first_before (inr (a, inr (b, inr (c, inr (d, inl (o, e)))))) = inr (λ z. omega arith, inr (a, inr (b, inr (d, inl (o, e)))))
  first_before (inr (a, inr (b, inr (c, inr (d, inr (o, e)))))) = inr (λ z. omega arith, inr (a, inr (b, inr (d, inr (o, e)))))

  -- So the verdict before is 23 where it is 25 now, and else the same.
  before : {v : ℕ} → Verdict t p v → ((v ≡ 25) × VerdictBefore t p 23) ⊎ ((v ≢ 25) × VerdictBefore t p v)
  before (inl a) = inr (λ z. omega (arith, refusal_below t (length p), a.1), inl a)
  before (inr a) = ⊎_elim (λ z. inl (z.0, inr (a.0, z.1))) (λ z. inr (z.0, inr (a.0, z.1))) (first_before a.1)

  unique : {v w : ℕ} → VerdictBefore t p v → VerdictBefore t p w → v ≡ w
  unique = answer_unique (conditions_before t p) t p

  -- And what it was tells what it is.
  now_is : {v : ℕ} → VerdictBefore t p v → ((v ≡ 23) × Verdict t p 25) ⊎ Verdict t p v
  now_is {v} b = ⊎_elim (λ z. inl (unique b z.1, subst (Verdict t p) z.0 (decided t p)))
      (λ z. inr (subst (Verdict t p) (sym (unique b z.1)) (decided t p))) (before (decided t p))

  same_but_25 : (v : ℕ) → v ≢ 25 → Verdict t p v → VerdictBefore t p v
  same_but_25 v n a = ⊎_elim (λ z. absurd (n z.0)) (λ z. z.1) (before a)

  same_but_23 : (v : ℕ) → v ≢ 23 → VerdictBefore t p v → Verdict t p v
  same_but_23 v n b = ⊎_elim (λ z. absurd (n z.0)) (λ z. z) (now_is b)

  pub recast : Recast t p
  recast = record {
    good = (same_but_23 0 (λ z. omega arith), same_but_25 0 (λ z. omega arith));
    was_23 = (
      λ b. ⊎_elim (λ z. inr z.1) (λ z. inl z) (now_is b),
      λ a. ⊎_elim (same_but_25 23 (λ z. omega arith)) (λ z. ⊎_elim (λ y. y.1) (λ y. absurd (y.0 refl)) (before z)) a,
    );
    others = λ v n m. (same_but_23 v n, same_but_25 v m);
  }
