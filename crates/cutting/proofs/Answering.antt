-- The refusals of cutting from the tests of the code, and every byte after a call that is refused and one that is not. Rests on the laws of what is lent
-- to a call (`table`, Saying).
use mathlib.Core.Path.{◌≡◌, sym, ◌∙◌}
use mathlib.Core.Bool.{true, false}
use mathlib.Core.List.{List}
use Prim.Native.Nat.{ℕ}
use native.Mathlib.Omega.{arith}
use borrow.Author.Tests.{ne_eqb}
use Rattle.std.specs.Prelude.{Result, IsErrAnd}
use Rattle.table.specs.declared.Refusal.{Refusal}
use Rattle.table.specs.Cause.{number_of, refused_by}
use Rattle.table.specs.Table.{next_of, first_free}
use Rattle.table.specs.Refusal.{fault}
use Rattle.table.specs.Writing.{with_word, written}
use Rattle.table.proofs.Refused.{some_number, passed_on}
use Rattle.table.proofs.Saying.{lent_made, lent_kept, lent_either}
use Rattle.cutting.specs.Cutting.{no_leaf, cut_refusal, namer_of, holder, hook, cut_out, after_cut}

module _ (t : List ℕ) (k : ℕ) where
  cut_kept : (cut_refusal t k ≡ 0 → ⊥) → t ≡ after_cut t k
  unfolding after_cut
  cut_kept z = lent_kept (cut_refusal t k) (cut_out t k) t z

  cut_after : cut_refusal t k ≡ 0 → cut_out t k ≡ after_cut t k
  unfolding after_cut
  cut_after z = lent_made (cut_refusal t k) (cut_out t k) t z

  pub cut_fault : (e : Refusal) (r : Result Unit Refusal) → IsErrAnd r (λ x. x ≡ e) → number_of e ≡ fault t →
      (refused_by r ≡ cut_refusal t k) × (t ≡ after_cut t k)
  cut_fault e r p n = rw (passed_on r e p) (number, cut_kept (λ z. some_number e (number ∙ z)))
    where
      number : number_of e ≡ cut_refusal t k
      number = n ∙ unfold cut_refusal in rw (ne_eqb (fault t) 0 (λ q. some_number e (n ∙ q)))

  pub cut_no_leaf : fault t ≡ 0 → no_leaf t k ≡ true → (9 ≡ cut_refusal t k) × (t ≡ after_cut t k)
  cut_no_leaf ok n = (number, cut_kept (λ z. omega (arith, number, z)))
    where
      number : 9 ≡ cut_refusal t k
      number = unfold cut_refusal in rw (ok, n)

  pub cut_done : (u : List ℕ) → fault t ≡ 0 → no_leaf t k ≡ false → u ≡ cut_out t k → (0 ≡ cut_refusal t k) × (u ≡ after_cut t k)
  cut_done u ok n e = (number, e ∙ cut_after (sym number))
    where
      number : 0 ≡ cut_refusal t k
      number = unfold cut_refusal in rw (ok, n)

  pub after_cut_lem : (P : List ℕ → Type 0) → (cut_refusal t k ≡ 0 → P (cut_out t k)) → P t → P (after_cut t k)
  unfolding after_cut
  after_cut_lem P done kept = lent_either (cut_refusal t k) (cut_out t k) t P done kept

  pub cut_words : (before parent word follower first : ℕ) (a b c d e f g : List ℕ) → before ≡ namer_of t 0 k → parent ≡ holder t k → word ≡ hook t k →
      follower ≡ next_of t k → first ≡ first_free t →
      a ≡ with_word before 0 follower t → b ≡ with_word parent word 0 a → c ≡ with_word k 0 first b → d ≡ with_word 0 2 k c → e ≡ with_word k 1 0 d →
      f ≡ with_word k 2 0 e → g ≡ with_word k 3 0 f → g ≡ cut_out t k
  unfolding cut_out written
  cut_words before parent word follower first a b c d e f g l m n o p q r s v w x y = y ∙ rw (x, w, v, s, r, q, l, m, n, o, p)
