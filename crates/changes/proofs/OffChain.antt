-- Of records on neither chain "left, right and tag change no answer", of the bytes that the calls leave: two tables that differ there only do so after each
-- call (`off_chain_after`), so that no later answer tells them apart. Rests on Lists, Written, Accepted and OffChain (`table`), Places, Answering and
-- OffChain (`hanging`, `cutting`), Inserted, Hanging, Hooked and Cutting.
use mathlib.Core.Path.{◌≡◌, refl, sym, ap, ◌∙◌}
use mathlib.Core.Logic.{◌⊎◌, inl, inr, ⊎_elim}
use mathlib.Core.Bool.{Bool, true, false}
use mathlib.Core.List.{List, [], ◌∷◌}
use Prim.Native.Nat.{ℕ, ◌<◌}
use native.Mathlib.Omega.{arith}
use lib.Dec.{T, eqb}
use borrow.Author.Tests.{eqb-true}
use Rattle.table.specs.Lists.{member}
use Rattle.table.specs.Table.{records, word, next_of, chain, Chained, first_free, free, Free, Empty}
use Rattle.table.specs.Refusal.{fault}
use Rattle.table.specs.Said.{kept_on_refusal}
use Rattle.table.specs.OffChain.{OffChain}
use Rattle.table.specs.Writing.{Write, written}
use Rattle.table.proofs.Lists.{member_cons}
use Rattle.table.proofs.Written.{OfWords, length_writes, written_same}
use Rattle.table.proofs.Accepted.{records_bounds, chain_within, free_within, first_free_lem}
use Rattle.table.proofs.OffChain.{chain_same, first_same, starts_same}
use Rattle.hanging.specs.Hanging.{slot, hang_refusal, hung, after_hang}
use Rattle.hanging.specs.Holding.{after_held}
use Rattle.cutting.specs.Cutting.{first, namer_of, holder, hook, cut_refusal, cut_out, after_cut}
use Rattle.hanging.proofs.Places.{hang_place}
use Rattle.cutting.proofs.Places.{Cuttable, cuttable}
use Rattle.hanging.proofs.Answering.{held_hang}
use Rattle.hanging.proofs.OffChain.{hang_refusal_same, off_chain_held}
use Rattle.cutting.proofs.OffChain.{off_chain_cut}
use Rattle.changes.specs.Leaf.{HungLeaf, CutLeaf}
use Rattle.changes.specs.Calls.{Call, hang, hold, hang_held, cut, after}
use Rattle.changes.proofs.Inserted.{behind_member}
use Rattle.changes.proofs.Hanging.{hang_leaf}
use Rattle.changes.proofs.Hooked.{hook_bounds}
use Rattle.changes.proofs.Cutting.{cut_leaf}

-- The first record that passes a test, where two tests agree on the list.
first_agrees : (f g : ℕ → Bool) (ks : List ℕ) → ((k : ℕ) → T (member k ks) → f k ≡ g k) → first f ks ≡ first g ks
unfolding first
first_agrees f g [] e = refl
first_agrees f g (k ∷ ks) e = rw (e k ((member_cons k k ks).1 (inl refl)), first_agrees f g ks (λ n m. e n ((member_cons n k ks).1 (inr m))))

module _ {t u : List ℕ} (h : OffChain t u) (ok : fault t ≡ 0) where
  -- A record of either chain.
  abbrev On : ℕ → Type 0
  On k = Chained t k ⊎ Free t k

  on_word : (k j : ℕ) → On k → j < 4 → word u k j ≡ word t k j
  on_word k j o low = ⊎_elim (λ (m : Chained t k). h.chained k j m low) (λ (m : Free t k). h.free k j m low) o

  on_within : (k : ℕ) → On k → k < records t
  on_within k o = ⊎_elim (λ (m : Chained t k). (chain_within t ok k m).1) (λ (m : Free t k). (free_within t ok k m).1) o

  -- The same words written to both, where no other record comes to stand on a chain.
  off_written : (ws : List Write) → OfWords ws → ((k : ℕ) → Chained (written ws t) k → On k) → ((k : ℕ) → Free (written ws t) k → On k) →
      OffChain (written ws t) (written ws u)
  off_written ws s c f = record {
    long = length_writes ws u ∙ h.long ∙ sym (length_writes ws t);
    head = λ j low. same 0 j (records_bounds t ok).0 low (h.head j low);
    chained = λ k j m low. same k j (on_within k (c k m)) low (on_word k j (c k m) low);
    free = λ k j m low. same k j (on_within k (f k m)) low (on_word k j (f k m) low);
  }
    where
      same : (k j : ℕ) → k < records t → j < 4 → word u k j ≡ word t k j → word (written ws u) k j ≡ word (written ws t) k j
      same k j w low e = written_same ws s k j t u h.long (omega (arith, records_bounds t ok)) low e

-- Hanging: both tables get the same words.
module _ {t u : List ℕ} (h : OffChain t u) (parent side tag : ℕ) (z : hang_refusal t parent side ≡ 0) where
  ok : fault t ≡ 0
  ok = (hang_place t parent side z).0

  leaf_free : Free t (first_free t)
  leaf_free = first_free_lem t ok (hang_place t parent side z).2

  parent_next : next_of u parent ≡ next_of t parent
  parent_next = ⊎_elim (λ (e : (parent ≡ 0) × Empty t). rw e.0 (h.head 0 (omega arith))) (λ (m : Chained t parent). h.chained parent 0 m (omega arith))
      (hang_place t parent side z).1.above

  off_hung : OffChain (hung t parent side tag) (hung u parent side tag)
  unfolding hung
  off_hung = rw (first_same h, h.free (first_free t) 0 leaf_free (omega arith), parent_next)
      (off_written h ok _ (slot_low, (omega arith, (omega arith, (omega arith, (omega arith, tt))))) chained freed)
    where
      l : HungLeaf t parent side tag
      l = hang_leaf t parent side tag z

      slot_low : slot parent side < 4
      slot_low = ⊎_elim (λ (e : slot parent side ≡ 1). omega arith) (λ (e : (slot parent side ≡ 2) × (parent ≡ 0 → ⊥)). omega arith)
          (hang_place t parent side z).1.slotted

      chained : (k : ℕ) → Chained (hung t parent side tag) k → On h ok k
      chained k m =
          ⊎_elim (λ (e : k ≡ first_free t). inr (rw e leaf_free)) (λ (n : Chained t k). inl n)
          ((behind_member parent (first_free t) 0 (chain t) (chain (hung t parent side tag)) l.behind k).0 m)

      freed : (k : ℕ) → Free (hung t parent side tag) k → On h ok k
      freed k m = inr (rw l.taken ((member_cons k (first_free t) (free (hung t parent side tag))).1 (inr m)))

-- Cutting: the same records are found, so both tables get the same words.
module _ {t u : List ℕ} (h : OffChain t u) where
  namer_same : (j k : ℕ) → j < 4 → namer_of u j k ≡ namer_of t j k
  unfolding namer_of
  namer_same j k low = rw (chain_same h) (first_agrees (λ m. eqb (word u m j) k) (λ m. eqb (word t m j) k) (chain t)
      (λ m c. ap (λ (n : ℕ). eqb n k) (h.chained m j c low)))

  holder_same : (k : ℕ) → holder u k ≡ holder t k
  unfolding holder
  holder_same k = rw (starts_same h k, namer_same 2 k (omega arith), namer_same 1 k (omega arith))

  hook_same : (k : ℕ) → hook u k ≡ hook t k
  unfolding hook
  hook_same k = rw (namer_same 2 k (omega arith))

  off_cut : (k : ℕ) → cut_refusal t k ≡ 0 → OffChain (cut_out t k) (cut_out u k)
  unfolding cut_out
  off_cut k z =
      rw (namer_same 0 k (omega arith), holder_same k, hook_same k, first_same h, h.chained k 0 c.leaf (omega arith))
      (off_written h c.accepted _ (omega arith, (hook_low, (omega arith, (omega arith, (omega arith, (omega arith, (omega arith, tt))))))) chained freed)
    where
      c : Cuttable t k
      c = cuttable t k z

      l : CutLeaf t k
      l = cut_leaf t k z

      hook_low : hook t k < 4
      hook_low = omega (arith, hook_bounds c)

      chained : (m : ℕ) → Chained (cut_out t k) m → On h c.accepted m
      chained m n = inl ((behind_member l.before k 0 (chain (cut_out t k)) (chain t) l.behind m).1 (inr n))

      freed : (m : ℕ) → Free (cut_out t k) m → On h c.accepted m
      freed m n = ⊎_elim (λ (e : m ≡ k). inl (rw e c.leaf)) (λ (f : Free t m). inr f) ((member_cons m k (free t)).0 (rw l.given at n))

  -- After a call, whether it was refused or not: it is refused on both or on neither.
  either_off : (n m : ℕ) (a b : List ℕ) → m ≡ n → (n ≡ 0 → OffChain a b) → OffChain (kept_on_refusal n a t) (kept_on_refusal m b u)
  either_off n m a b e done = rw e (go (eqb n 0) refl)
    where
      go : (c : Bool) → eqb n 0 ≡ c → OffChain (elim c [ true ↦ a | false ↦ t ]) (elim c [ true ↦ b | false ↦ u ])
      go true z = done (eqb-true n 0 z)
      go false z = h

  pub off_chain_after : (c : Call) → OffChain (after c t) (after c u)
  unfolding after after_hang after_held after_cut
  off_chain_after (hang parent side tag) = either_off _ _ _ _ (hang_refusal_same h parent side) (off_hung h parent side tag)
  off_chain_after (hold parent side) = h
  off_chain_after (hang_held parent side tag held) =
      either_off _ _ _ _ (off_chain_held h parent side held) (λ z. off_hung h parent side tag (held_hang t parent side held z))
  off_chain_after (cut node) = either_off _ _ _ _ (off_chain_cut h node) (off_cut node)
