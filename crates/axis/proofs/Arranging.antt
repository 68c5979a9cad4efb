-- Lines seen along an axis: the loop, a line, and all lines with the lengths as the code has them. Rests on the laws of rearrangements.
use mathlib.Core.Path.{◌≡◌, refl, ap, ◌∙◌, subst}
use mathlib.Core.Logic.{inl, ⊎_swap}
use mathlib.Core.Bool.{Bool}
use mathlib.Core.List.{List}
use Prim.Native.Nat.{ℕ, ◌+◌, ◌≤◌, ◌<◌}
use native.Mathlib.Decide.{ℕ_discrete}
use native.Mathlib.Omega.{arith}
use lib.ListN.{length, get_or, set}
use lib.Seq.{get_or-set_same, get_or-set_other}
use Rattle.segment.specs.declared.Point.{Point}
use Rattle.segment.specs.inner.Test.{number}
use Rattle.sort.specs.inner.Order.{Rearranged, Ascending}
use Rattle.sort.proofs.Rearranging.{all_one}
use Rattle.line.specs.inner.Line.{start_of, end_of, first, last}
use Rattle.line.proofs.Numbers.{number_first, number_last}
use Rattle.axis.specs.inner.Arranged.{view, Joined, Arranged, Settled}

-- ---- the loop

pub record Arranging (across : Bool) (i : ℕ) (a b : List ℕ) : Type 0 where
  pub done : Arranged across i a b
  pub rest : (j : ℕ) → i ≤ j → get_or b j 0 ≡ get_or a j 0

pub arranging_none : (across : Bool) (a : List ℕ) → Arranging across 0 a a
arranging_none across a = record { done = record { line = λ i h. absurd (omega arith) }; rest = λ j h. refl }

pub arranging_more : {across : Bool} {i v : ℕ} {a b : List ℕ} → i < length b → Arranging across i a b →
    Joined (view across (start_of (get_or b i 0))) (view across (end_of (get_or b i 0))) v → Arranging across (i + 1) a (set b i v)
arranging_more {across} {i} {v} {a} {b} h l x = record {
  done = record { line = λ j k. go j k (ℕ_discrete j i) };
  rest = λ j k. get_or-set_other b i j v 0 (omega arith) ∙ l.rest j (omega arith);
}
  where
    go : (j : ℕ) → j < i + 1 → Dec (j ≡ i) → Joined (view across (start_of (get_or a j 0))) (view across (end_of (get_or a j 0))) (get_or (set b i v) j 0)
    go j k (yes e) = rw (e, get_or-set_same b i v 0 h, ← l.rest i (omega arith)) x
    go j k (no e) = rw (get_or-set_other b i j v 0 e) (l.done.line j (omega arith))

pub arranging_all : {across : Bool} {i n : ℕ} {a b : List ℕ} → i ≡ n → Arranging across i a b → Arranged across n a b
arranging_all {across} {a = a} {b} e l = subst (λ (k : ℕ). Arranged across k a b) e l.done

-- A line made of two points whose numbers are in order.
pub joined_forth : {P Q : Point} {r n m : ℕ} → start_of r ≡ P → end_of r ≡ Q → n ≡ number 65536 P → m ≡ number 65536 Q → n ≤ m → Joined P Q r
joined_forth {P} {Q} {r} p q e f h =
    record { ends = inl (p, q); onward = omega (arith, number_first r, number_last r, ap (number 65536) p, ap (number 65536) q) }

pub joined_back : {P Q : Point} {r : ℕ} → Joined Q P r → Joined P Q r
joined_back x = record { ends = ⊎_swap x.ends; onward = x.onward }

-- ---- arranged, then sorted

pub settled : {across : Bool} {n k : ℕ} {a b c : List ℕ} → Arranged across n a b → Rearranged k b c → Ascending last k c → k ≡ n → Settled n a c
settled {across} {n = n} {k} {a} {b} {c} r s u e = record {
  across = across;
  seen = b;
  arranged = r;
  moved = subst (λ (m : ℕ). Rearranged m b c) e s;
  onward = record { onward = λ i h. all_one (λ x. first x ≤ last x) s (λ j g. (r.line j (omega arith)).onward) i (omega arith) };
  ascends = subst (λ (m : ℕ). Ascending last m c) e u;
}
