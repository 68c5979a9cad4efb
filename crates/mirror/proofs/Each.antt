-- The laws of what is done at each of the given records, one after the other, whatever it is: what no step changes is kept; what one step changes is changed
-- once. Rests on the laws of lists of numbers (`table`, proofs/Lists).
use mathlib.Core.Path.{◌≡◌, refl, ◌∙◌}
use mathlib.Core.Logic.{inl, inr, ⊎_elim}
use mathlib.Core.List.{List, [], ◌∷◌}
use Prim.Native.Nat.{ℕ}
use lib.Dec.{T}
use lib.ListN.{length}
use Rattle.table.specs.Lists.{member, repeats}
use Rattle.table.proofs.Lists.{T_false, or_false, member_cons, Distinct}
use Rattle.mirror.specs.Exchanged.{each}

module _ (f : ℕ → List ℕ → List ℕ) where
  -- An observation o that no step of the list changes.
  pub each_kept : {A : Type 0} (o : List ℕ → A) (ks l : List ℕ) → ((k : ℕ) → T (member k ks) → (l : List ℕ) → o (f k l) ≡ o l) → o (each f ks l) ≡ o l
  unfolding each
  each_kept o [] l e = refl
  each_kept o (k ∷ ks) l e = each_kept o ks (f k l) (λ n m. e n ((member_cons n k ks).1 (inr m))) ∙ e k ((member_cons k k ks).1 (inl refl)) l

  module _ (long : (k : ℕ) (l : List ℕ) → length (f k l) ≡ length l) where
    pub each_length : (ks l : List ℕ) → length (each f ks l) ≡ length l
    each_length ks l = each_kept length ks l (λ k m. long k)

    -- In a list without repetition the step at m is taken once: what it makes of p is o afterwards, if no other step changes o or p.
    pub each_once : {A : Type 0} (o p : List ℕ → A) (m n : ℕ) → ((k : ℕ) → (k ≡ m → ⊥) → (l : List ℕ) → (o (f k l) ≡ o l) × (p (f k l) ≡ p l)) →
        ((l : List ℕ) → length l ≡ n → o (f m l) ≡ p l) → (ks l : List ℕ) → Distinct ks → T (member m ks) → length l ≡ n → o (each f ks l) ≡ p l
    unfolding each repeats
    each_once o p m n kept made [] l d h e = absurd (unfold member in h)
    each_once o p m n kept made (k ∷ ks) l d h e =
        let q = (or_false (member k ks) (repeats ks)).0 d in
        let off : ¬ T (member k ks) = (T_false (member k ks)).1 q.0 in
        ⊎_elim (λ (i : m ≡ k). each_kept o ks (f k l) (λ x y r. (kept x (λ z. off (rw (← i, ← z) y)) r).0) ∙ rw (← i) (made l e))
        (λ (y : T (member m ks)). each_once o p m n kept made ks (f k l) q.1 y (long k l ∙ e) ∙ (kept k (λ z. off (rw z y)) l).1) ((member_cons m k ks).0 h)
