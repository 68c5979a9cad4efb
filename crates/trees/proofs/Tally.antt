-- Counting the links of the records of a listed chain. Rests on Lists, Chain and Causes.
use mathlib.Core.Path.{◌≡◌, refl, sym, ap, ◌∙◌}
use mathlib.Core.Logic.{inl, inr, ⊎_elim}
use mathlib.Core.Bool.{Bool, true, false}
use mathlib.Core.List.{List, [], ◌∷◌, ◌++◌, append_assoc}
use Prim.Native.Nat.{ℕ, suc, ◌+◌, ◌*◌, ◌≤◌, ◌<◌}
use native.Mathlib.Numerals.{add-one}
use native.Mathlib.Omega.{arith}
use lib.ListN.{length, get_or, take, set, length-set, length-append, get_or-eq_default}
use lib.Seq.{take-suc, take-length, get_or-set_same, get_or-set_other, length-take-le}
use lib.Dec.{ltb}
use borrow.Author.Tests.{ltb-true, ltb-false}
use Rattle.table.specs.Lists.{count}
use Rattle.table.specs.Table.{left_of, right_of, chain}
use Rattle.table.specs.Trees.{links}
use Rattle.chains.specs.inner.Listing.{Listed, Blank}
use Rattle.trees.specs.inner.Steps.{Tallied}
use Rattle.table.proofs.Lists.{same, same_one, Alike, alike, count_append}
use Rattle.table.proofs.Chain.{links_append}
use Rattle.table.proofs.Causes.{sound_length}

-- tally has how often each number stands in the list.
pub record Counts (ks tally : List ℕ) : Type 0 where
  pub long : length tally ≡ 4097
  pub counts : (k : ℕ) → k < 4097 → get_or tally k 0 ≡ count k ks

count_length : (k : ℕ) (ks : List ℕ) → count k ks ≤ length ks
unfolding count
count_length k [] = omega arith
count_length k (n ∷ ns) = ⊎_elim (λ (e : (k ≡ n) × (same k n ≡ 1)). omega (arith, count_length k ns))
    (λ (e : (k ≡ n → ⊥) × (same k n ≡ 0)). omega (arith, count_length k ns)) (alike k n)

length_links : (t ks : List ℕ) → length (links t ks) ≡ 2 * length ks
unfolding links
length_links t [] = refl
length_links t (k ∷ ks) = omega (arith, length_links t ks)

pub counts_few : (ks tally : List ℕ) (k : ℕ) → Counts ks tally → get_or tally k 0 ≤ length ks
counts_few ks tally k c = go (ltb k 4097) refl
  where
    go : (b : Bool) → ltb k 4097 ≡ b → get_or tally k 0 ≤ length ks
    go true e = omega (arith, c.counts k (ltb-true k 4097 e), count_length k ks)
    go false e = omega (arith, get_or-eq_default {A = ℕ} tally 0 {n = k} (omega (arith, c.long, ltb-false k 4097 e)))

pub counts_few_more : (ks tally : List ℕ) (n k : ℕ) → Counts (ks ++ (n ∷ [])) tally → get_or tally k 0 ≤ suc (length ks)
counts_few_more ks tally n k c = omega (arith, counts_few (ks ++ (n ∷ [])) tally k c, length-append ks (n ∷ []))

pub counts_none : (tally : List ℕ) → Blank tally → Counts [] tally
unfolding count
counts_none tally b = record { long = b.long; counts = λ k h. b.zeros k }

-- One more number.
pub counts_more : (ks tally after : List ℕ) (n : ℕ) → Counts ks tally → after ≡ set tally n (get_or tally n 0 + 1) → Counts (ks ++ (n ∷ [])) after
unfolding count
counts_more ks tally after n c e = rw e (record { long = simp length-set c.long; counts = λ k h. rw count_append (go k h (alike k n)) })
  where
    go : (k : ℕ) → k < 4097 → Alike k n → get_or (set tally n (get_or tally n 0 + 1)) k 0 ≡ count k ks + (same k n + 0)
    go k h (inl e) = rw (sym e.0) (get_or-set_same tally k _ 0 (omega (arith, c.long)) ∙ omega (arith, c.counts k h, same_one k k refl))
    go k h (inr e) = rw (get_or-set_other tally n k (get_or tally n 0 + 1) 0 e.0) (omega (arith, c.counts k h))

-- The links of the first records of the chain, and of one more.
module _ (t list : List ℕ) (l : Listed t (chain t) list) where
  pub links_few : (i : ℕ) → i < length list → length (links t (take i list)) ≤ 8192
  links_few i h =
      omega (
        arith,
        length_links t (take i list),
        length-take-le i list (omega arith),
        ap length l.listed,
        sound_length t l.shaped.whole l.sound,
        l.shaped.room,
      )

  pub links_more : (i : ℕ) → i < length list →
      links t (take (i + 1) list) ≡ (links t (take i list) ++ (left_of t (get_or list i 0) ∷ [])) ++ (right_of t (get_or list i 0) ∷ [])
  unfolding links
  links_more i h = rw (add-one, take-suc list i 0 h, links_append, append_assoc)

  pub counted_all : (tally : List ℕ) (i : ℕ) → i ≡ length list → Counts (links t (take i list)) tally → Tallied t tally
  counted_all tally i e c = record {
    long = c.long;
    tallies = λ k h. c.counts k h ∙ ap (λ (ks : List ℕ). count k (links t ks)) (ap (λ (j : ℕ). take j list) e ∙ take-length list ∙ l.listed);
  }
