-- The walk along the chain, or along the free records: what its loop keeps, and how it ends. Rests on Lists, Chain and Causes.
use mathlib.Core.Path.{◌≡◌, refl, sym, ap, ◌∙◌}
use mathlib.Core.Logic.{◌⊎◌, inl, inr, ⊎_elim, ⊎_map}
use mathlib.Core.Bool.{Bool, true, false, cond, ◌||◌, or-true, or-false}
use mathlib.Core.List.{List, [], ◌∷◌, ◌++◌, append_assoc, append-nil}
use Prim.Native.Nat.{ℕ, zero, suc, ◌+◌, ◌-◌, ◌≤◌, ◌<◌}
use native.Mathlib.Nat.{sub-zero}
use native.Mathlib.Numerals.{add-one}
use native.Mathlib.Omega.{arith}
use lib.Dec.{T, eqb, eqb→eq}
use lib.ListN.{length, get_or, take, set, length-set, length-append}
use lib.Seq.{take-suc-set, length-take-le, get_or-set_same, get_or-set_other}
use borrow.Author.Tests.{eq-eqb, ne_eqb}
use Rattle.table.specs.Lists.{member, repeats, count}
use Rattle.table.specs.Table.{records, next_of, follow, trail, chain, first_free, free}
use Rattle.table.specs.Refusal.{broken}
use Rattle.chains.specs.inner.Listing.{Shaped, Blank, Met}
use Rattle.table.proofs.Lists.{or_T, member_append, member_count, member_none, same, same_one, alike, Alike, count_append, Distinct, repeats_count}
use Rattle.table.proofs.Lists.{length_between}
use Rattle.table.proofs.Chain.{follow_none}
use Rattle.table.proofs.Causes.{unbroken, not_broken}

-- After i of the records from k on, with the walk at record `at`: they are the first of them, distinct and within the table, and they and zero are marked.
pub record Walk (t : List ℕ) (k i at : ℕ) (list mark : List ℕ) : Type 0 where
  pub split : trail t k ≡ take i list ++ follow (records t - i) t at
  pub once : Distinct (take i list)
  pub within : (k : ℕ) → T (member k (take i list)) → (1 ≤ k) × (k < records t)
  pub marks : (k : ℕ) → get_or mark k 0 ≡ cond (eqb k 0 || member k (take i list)) 1 0
  pub room : i < records t
  pub at_small : at < 65536
  pub list_long : length list ≡ 4097
  pub mark_long : length mark ≡ 4097

pub walk_start : (t : List ℕ) (at : ℕ) (list mark : List ℕ) → Shaped t → length list ≡ 4097 → Blank mark → at < 65536 → Walk t at 0 at list (set mark 0 1)
unfolding member repeats
walk_start t at list mark s l z b =
    record {
      split = rw sub-zero;
      once = refl;
      within = λ k h. absurd h;
      marks = λ k. go (alike k 0);
      room = s.head;
      at_small = b;
      list_long = l;
      mark_long = simp length-set z.long;
    }
  where
    go : {k : ℕ} → Alike k 0 → get_or (set mark 0 1) k 0 ≡ cond (eqb k 0 || false) 1 0
    go {k} (inl e) = rw e.0 (get_or-set_same mark 0 1 0 (omega (arith, z.long)))
    go {k} (inr e) = rw (ne_eqb k 0 e.0, get_or-set_other mark 0 k 1 0 e.0) (z.zeros k)

follow_some : (n : ℕ) (t : List ℕ) (k : ℕ) → (k ≡ 0 → ⊥) → follow (suc n) t k ≡ k ∷ follow n t (next_of t k)
unfolding follow
follow_some n t zero p = absurd (p refl)
follow_some n t (suc k) p = refl

-- What is not false is true.
otherwise : (b : Bool) → (b ≡ false → ⊥) → b ≡ true
otherwise true h = refl
otherwise false h = absurd (h refl)

seen : (k : ℕ) → (k ≡ 0 → ⊥) → (b : Bool) → (◌≡◌ {A = ℕ} (cond (eqb k 0 || b) 1 0) 0 → ⊥) → T b
seen k n true h = tt
seen k n false h = absurd (h (rw (ne_eqb k 0 n)))

unseen : (a b : Bool) → ◌≡◌ {A = ℕ} (cond (a || b) 1 0) 0 → b ≡ false
unseen true b e = absurd (omega arith)
unseen false true e = absurd (omega arith)
unseen false false e = refl

module _ (t : List ℕ) (k i at : ℕ) (list mark : List ℕ) (w : Walk t k i at list mark) where
  -- At zero the records have ended, and they are not broken.
  module _ (shaped : Shaped t) (e : at ≡ 0) where
    ended : trail t k ≡ take i list
    ended = w.split ∙ rw (e, follow_none) (append-nil _)

    sound : broken t (trail t k) ≡ false
    sound = rw ended (not_broken t (take i list) w.once (λ k h. (w.within k h).1))

    long : i ≤ length list
    long = omega (arith, w.room, w.list_long, shaped.room)

    pub walk_end : Met t (trail t k) i list mark
    walk_end = record {
      room = long;
      listed = record { shaped = shaped; sound = sound; listed = sym ended };
      marked = record { long = w.mark_long; marks = rw ended w.marks };
    }

  module _ (on : at ≡ 0 → ⊥) where
    more : trail t k ≡ take i list ++ at ∷ follow (records t - (i + 1)) t (next_of t at)
    more = w.split ∙ ap (λ (l : List ℕ). take i list ++ l) (ap (λ (n : ℕ). follow n t at) (omega (arith, w.room)) ∙ follow_some (records t - (i + 1)) t at on)

    one_more : suc (count at (take i list)) ≤ count at (trail t k)
    unfolding count
    one_more = rw (more, count_append) (omega (arith, same_one at at refl))

    pub walk_beyond : records t ≤ at → broken t (trail t k) ≡ true
    walk_beyond b = otherwise _ (λ s. omega (arith, (unbroken t (trail t k) s).1 at ((member_count at (trail t k)).1 (omega (arith, one_more)))))

    pub walk_twice : (get_or mark at 0 ≡ 0 → ⊥) → broken t (trail t k) ≡ true
    walk_twice m =
        otherwise _
        (λ s. omega (
          arith,
          one_more,
          (repeats_count (trail t k)).0 (unbroken t (trail t k) s).0 at,
          (member_count at (take i list)).0 (seen at on (member at (take i list)) (λ e. m (w.marks at ∙ e))),
        ))

    module _ (shaped : Shaped t) (b : at < records t) (m : get_or mark at 0 ≡ 0) where
      taken : take (i + 1) (set list i at) ≡ take i list ++ (at ∷ [])
      taken = rw add-one (take-suc-set list i at (omega (arith, w.room, w.list_long, shaped.room)))

      fresh : count at (take i list) ≡ 0
      fresh = (member_none at (take i list)).0 (unseen (eqb at 0) (member at (take i list)) (sym (w.marks at) ∙ m))

      once : Distinct (take i list ++ (at ∷ []))
      unfolding count
      once = (repeats_count (take i list ++ (at ∷ []))).1 (λ k. rw count_append (go k (alike k at)))
        where
          go : (k : ℕ) → Alike k at → count k (take i list) + (same k at + 0) ≤ 1
          go k (inl e) = omega (arith, fresh, ap (λ (n : ℕ). count n (take i list)) e.0)
          go k (inr e) = omega (arith, (repeats_count (take i list)).0 w.once k)

      -- A member is one of the old, or the new one.
      cases : (k : ℕ) → T (member k (take i list ++ (at ∷ []))) → T (member k (take i list)) ⊎ (k ≡ at)
      unfolding member
      cases k h = ⊎_map (λ (o : T (member k (take i list))). o) (λ (o : T (eqb k at || false)). eqb→eq k at (rw or-false at o))
          ((or_T (member k (take i list)) (eqb k at || false)).0 (rw member_append at h))

      within : (k : ℕ) → T (member k (take i list ++ (at ∷ []))) → (1 ≤ k) × (k < records t)
      within k h = ⊎_elim (w.within k) (λ (e : k ≡ at). omega (arith, on)) (cases k h)

      marks : (k : ℕ) → get_or (set mark at 1) k 0 ≡ cond (eqb k 0 || member k (take i list ++ (at ∷ []))) 1 0
      unfolding member
      marks k = rw member_append (go (alike k at))
        where
          go : Alike k at → get_or (set mark at 1) k 0 ≡ cond (eqb k 0 || (member k (take i list) || (eqb k at || false))) 1 0
          go (inl e) = rw (e.0, eq-eqb at at refl, or-true, or-true) (get_or-set_same mark at 1 0 (omega (arith, w.mark_long, shaped.room)))
          go (inr e) = rw (ne_eqb k at e.0, or-false, get_or-set_other mark at k 1 0 e.0) (w.marks k)

      pub walk_step : next_of t at < 65536 → Walk t k (i + 1) (next_of t at) (set list i at) (set mark at 1)
      walk_step s = record {
        split = more ∙ rw (taken, append_assoc);
        once = rw taken once;
        within = rw taken within;
        marks = rw taken marks;
        room =
            omega (
              arith,
              length_between (records t) (take i list ++ (at ∷ [])) shaped.head once within,
              length-append (take i list) (at ∷ []),
              length-take-le i list (omega (arith, w.room, w.list_long, shaped.room)),
            );
        at_small = s;
        list_long = simp length-set w.list_long;
        mark_long = simp length-set w.mark_long;
      }

-- What is walked is the chain from the head's next, and the free records from its right.
pub from_next : (t : List ℕ) (k : ℕ) → k ≡ next_of t 0 → trail t k ≡ chain t
unfolding chain
from_next t k e = rw e

pub from_right : (t : List ℕ) (k : ℕ) → k ≡ first_free t → trail t k ≡ free t
unfolding free
from_right t k e = rw e
