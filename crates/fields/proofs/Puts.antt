-- Bytes written behind bytes: what two writers leave is what one would.
use mathlib.Core.Path.{◌≡◌, refl, ◌∙◌}
use mathlib.Core.List.{List, [], ◌∷◌, ◌++◌}
use Prim.Native.Nat.{ℕ, suc, ◌+◌, ◌/◌, ◌%◌, ◌≤◌, ◌<◌}
use native.Mathlib.Numerals.{add-one}
use native.Mathlib.Nat.{add-zero, add-suc, suc-add}
use native.Mathlib.Omega.{arith}
use lib.ListN.{length, get_or, set, drop, length-append}
use lib.Seq.{paste, sets, sets-eq, length-sets, take_all, drop-cons}
use Rattle.std.proofs.lemmas.List.{drop_all}
use Rattle.fields.specs.declared.Writer.{Writer}
use Rattle.fields.specs.Fields.{decimal, fields}
use Rattle.fields.specs.inner.Put.{Put}
use Rattle.fields.proofs.Decimal.{decimal_one, decimal_more}

sets_append : (xs ys l : List ℕ) (i : ℕ) → sets l i (xs ++ ys) ≡ sets (sets l i xs) (i + length xs) ys
sets_append [] ys l i = rw add-zero
sets_append (x ∷ xs) ys l i = rw (sets_append xs ys (set l i x) (suc i), suc-add, ← add-suc)

-- Bytes behind bytes, and no bytes.
pub put_then : {xs ys : List ℕ} {a b c : Writer} → Put xs a b → Put ys b c → Put (xs ++ ys) a c
put_then {xs} {ys} {a} {b} {c} p q = record {
  same = q.same ∙ p.same;
  place = rw length-append (omega (arith, p.place, q.place));
  stored = q.stored ∙ rw (p.place, p.stored, sets_append xs ys a.out.now a.at);
}

pub put_nothing : (a : Writer) → Put [] a a
put_nothing a = record { same = refl; place = omega arith; stored = refl }

-- A writer keeps the length of its buffer.
pub put_length : {xs : List ℕ} {a b : Writer} → Put xs a b → length b.out.now ≡ length a.out.now
put_length {xs} {a} {b} p = rw p.stored (length-sets a.out.now a.at xs)

-- A word copied whole.
pub paste_sets : (w l : List ℕ) (i : ℕ) → i + length w ≤ length l → paste l i w (length w) ≡ sets l i w
paste_sets w l i h = rw (sets-eq w l i h, take_all (length w) w (omega arith))

-- A number, digit by digit.
pub put_one : {n : ℕ} {a b : Writer} → n < 10 → Put ((48 + n) ∷ []) a b → Put (decimal n) a b
put_one {n} h p = rw (decimal_one n h) p

pub put_more : {n : ℕ} {a b c : Writer} → 10 ≤ n → Put (decimal (n / 10)) a b → Put ((48 + n % 10) ∷ []) b c → Put (decimal n) a c
put_more {n} h p q = rw (decimal_more n h) (put_then p q)

-- The next of the fields of a line.
pub put_next : (xs : List ℕ) (i : ℕ) {a b c w : Writer} → i < length xs → Put (32 ∷ []) a b → Put (decimal (get_or xs i 0)) b c →
    Put (fields (drop (i + 1) xs)) c w → Put (fields (drop i xs)) a w
unfolding fields
put_next xs i h p q r = rw (drop-cons xs i 0 h) (put_then p (put_then q (rw add-one at r)))

pub put_end : (xs : List ℕ) (i : ℕ) {a b : Writer} → length xs ≤ i → Put (10 ∷ []) a b → Put (fields (drop i xs)) a b
unfolding fields
put_end xs i h p = rw (drop_all i xs h) p
