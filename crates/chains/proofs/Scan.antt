-- Going through listed records, of the chain or free ones: where they are, and when none of them passes a test. Rests on Lists and Causes.
use mathlib.Core.Path.{◌≡◌, refl, sym, ap, ◌∙◌, subst}
use mathlib.Core.Logic.{◌≢◌, inl, inr, ⊎_elim}
use mathlib.Core.Bool.{Bool, true, false, not, cond, ◌&&◌, ◌||◌, or-true, not-not}
use mathlib.Core.List.{List, [], ◌∷◌}
use Prim.Native.Nat.{ℕ, zero, suc, ◌<◌}
use native.Mathlib.Omega.{arith}
use lib.Dec.{T, eqb}
use lib.ListN.{length, get_or}
use Rattle.std.proofs.lemmas.List.{get_or_default}
use borrow.Author.Tests.{lt-leb, ne_eqb}
use Rattle.std.specs.List.{list_any}
use Rattle.table.specs.Lists.{any, member, repeats}
use Rattle.table.specs.Table.{records, chain, free}
use Rattle.table.specs.Refusal.{beyond, stray, occupied}
use Rattle.chains.specs.inner.Listing.{Listed, Marked}
use Rattle.table.proofs.Lists.{T_true, T_false, or_false, member_cons, any_false, any_same, Distinct}
use Rattle.table.proofs.Causes.{free_positive, unbroken, sound_within}

-- What stands at a place is a member, and a member stands at a place.
pub member_at : (ks : List ℕ) (i : ℕ) → i < length ks → T (member (get_or ks i 0) ks)
member_at [] i h = absurd (omega arith)
member_at (k ∷ ks) zero h = (member_cons k k ks).1 (inl refl)
member_at (k ∷ ks) (suc i) h = (member_cons (get_or ks i 0) k ks).1 (inr (member_at ks i (omega arith)))

pub place : (k : ℕ) (ks : List ℕ) → T (member k ks) → (i : ℕ) × (i < length ks) × (get_or ks i 0 ≡ k)
place k [] h = absurd (unfold member in h)
place k (n ∷ ns) h =
    ⊎_elim (λ (e : k ≡ n). (0, omega arith, sym e)) (λ (m : T (member k ns)). let p = place k ns m in (suc p.0, omega (arith, p.1), p.2))
    ((member_cons k n ns).0 h)

-- A list without repeats has different numbers at different places.
pub places_differ : (ks : List ℕ) (i j : ℕ) → Distinct ks → i < j → j < length ks → get_or ks i 0 ≢ get_or ks j 0
unfolding repeats
places_differ [] i j d l m e = omega arith
places_differ (k ∷ ks) i zero d l m e = omega arith
places_differ (k ∷ ks) zero (suc j) d l m e =
    (T_false (member k ks)).1 ((or_false (member k ks) (repeats ks)).0 d).0 (subst (λ n. T (member n ks)) (sym e) (member_at ks j (omega arith)))
places_differ (k ∷ ks) (suc i) (suc j) d l m e = places_differ ks i j ((or_false (member k ks) (repeats ks)).0 d).1 (omega arith) (omega arith) e

-- A number of the list passes.
pub any_true : (f : ℕ → Bool) (ks : List ℕ) (k : ℕ) → T (member k ks) → f k ≡ true → any f ks ≡ true
any_true f ks k m e = go (any f ks) refl
  where
    go : (b : Bool) → any f ks ≡ b → b ≡ true
    go true h = refl
    go false h = absurd (subst T (sym e ∙ (any_false f ks).0 h k m) tt)

-- Of the listed records.
module _ (t ks list : List ℕ) (l : Listed t ks list) where
  pub listed_member : (i : ℕ) → i < length list → T (member (get_or list i 0) ks)
  listed_member i h = rw (← l.listed) (member_at list i h)

  pub listed_inside : (i : ℕ) → i < length list → get_or list i 0 < records t
  listed_inside i h = (unbroken t ks l.sound).1 (get_or list i 0) (listed_member i h)

  pub scan_hit : (f : ℕ → Bool) (i : ℕ) → i < length list → f (get_or list i 0) ≡ true → any f ks ≡ true
  scan_hit f i h e = any_true f ks (get_or list i 0) (listed_member i h) e

  pub scan_none : (f : ℕ → Bool) → ((i : ℕ) → i < length list → f (get_or list i 0) ≡ false) → any f ks ≡ false
  scan_none f h = (any_false f ks).1 (λ k m. let p = place k list (rw l.listed m) in ap f (sym p.2) ∙ h p.0 p.1)

-- A free record is within the table.
pub free_inside : (t list : List ℕ) → Listed t (free t) list → (k i : ℕ) → i < length list → k ≡ get_or list i k → k < records t
free_inside t list l k i h e = rw (e ∙ get_or_default list i k 0 h) (listed_inside t (free t) list l i h)

module _ (t list : List ℕ) (l : Listed t (chain t) list) where
  -- A link is stray if it is not marked.
  stray_mark : (mark : List ℕ) → Marked (chain t) mark → (k : ℕ) → eqb (get_or mark k 0) 0 ≡ stray t k
  unfolding stray beyond
  stray_mark mark m k = rw (m.marks k) (go (eqb k 0) (member k (chain t)) refl)
    where
      go : (a b : Bool) → member k (chain t) ≡ b → eqb (cond (a || b) 1 0) 0 ≡ not a && (beyond t k || not b)
      go true b e = refl
      go false true e = rw (lt-leb (records t) k (sound_within t l.sound k ((T_true (member k (chain t))).1 e)).1)
      go false false e = rw or-true

  pub stray_by : (mark : List ℕ) → Marked (chain t) mark → (r b : Bool) (k link : ℕ) → not r ≡ b → r ≡ not (eqb (get_or mark link 0) 0) → link ≡ k →
      stray t k ≡ b
  stray_by mark m r b k link d e f = ap (stray t) (sym f) ∙ sym (stray_mark mark m link) ∙ sym (not-not _) ∙ ap not (sym e) ∙ d

-- A record other than the head is marked if it is on the chain.
pub marked_by : (t mark : List ℕ) (k : ℕ) (r : Bool) → (k ≡ 0 → ⊥) → Marked (chain t) mark → r ≡ not (eqb (get_or mark k 0) 0) → r ≡ member k (chain t)
marked_by t mark k r n m e = e ∙ rw (m.marks k, ne_eqb k 0 n) (go (member k (chain t)))
  where
    go : (b : Bool) → not (eqb (cond b 1 0) 0) ≡ b
    go true = refl
    go false = refl

-- std's search of a list, and the one of the refusals.
pub list_any_any : (f : ℕ → Bool) (ks : List ℕ) → list_any f ks ≡ any f ks
unfolding any
list_any_any f [] = refl
list_any_any f (k ∷ ks) = ap (λ (b : Bool). f k || b) (list_any_any f ks)

-- Of free records, whether one is on the chain or in use.
pub any_taken : (t list mark : List ℕ) → Listed t (free t) list → Marked (chain t) mark →
    list_any (λ k. not (eqb (get_or mark k 0) 0) || occupied t k) list ≡ any (λ k. member k (chain t) || occupied t k) (free t)
any_taken t list mark l m =
    list_any_any _ list ∙ rw l.listed
    (any_same _ _ (free t) (λ k h. ap (λ (b : Bool). b || occupied t k)
    (marked_by t mark k _ (λ e. omega (arith, free_positive t k h)) m refl)))
