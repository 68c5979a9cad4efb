-- "Records on neither chain are still allowed and never taken": any call keeps all their words, refused or not (`never_taken`). Rests on Accepted
-- (`table`), Answering and Places (`hanging`, `cutting`), Hanging, Hooked and Cutting.
use mathlib.Core.Path.{◌≡◌, refl, sym}
use mathlib.Core.Logic.{◌≢◌, ◌⊎◌, ⊎_elim, ⊎_map}
use mathlib.Core.List.{List}
use Prim.Native.Nat.{ℕ, ◌<◌}
use Rattle.table.specs.Table.{word, Chained}
use Rattle.table.specs.OffChain.{OnNeither}
use Rattle.table.proofs.Accepted.{first_free_lem}
use Rattle.hanging.specs.Hanging.{hang_refusal, hung}
use Rattle.hanging.proofs.Answering.{after_hang_lem, after_held_lem}
use Rattle.hanging.proofs.Places.{hang_place}
use Rattle.cutting.specs.Cutting.{namer_of, holder, cut_refusal, cut_out}
use Rattle.cutting.proofs.Answering.{after_cut_lem}
use Rattle.cutting.proofs.Places.{cuttable}
use Rattle.changes.specs.Calls.{Call, hang, hold, hang_held, cut, after}
use Rattle.changes.proofs.Hanging.{hung_graft}
use Rattle.changes.proofs.Hooked.{before_cases, hooked}
use Rattle.changes.proofs.Cutting.{cut_graft}

module _ (t : List ℕ) (k j : ℕ) (a : OnNeither t k) (low : j < 4) where
  -- Such a record is not the head, nor chained.
  other : {A : Type 0} (m : ℕ) → ((m ≡ 0) × A) ⊎ Chained t m → k ≢ m
  other {A} m c e = ⊎_elim (λ (z : (m ≡ 0) × A). a.no_head (rw e z.0)) (λ (h : Chained t m). a.unchained (rw e h)) c

  hung_elsewhere : (parent side tag : ℕ) → hang_refusal t parent side ≡ 0 → word (hung t parent side tag) k j ≡ word t k j
  hung_elsewhere parent side tag z =
      let p = hang_place t parent side z in
      let off = other parent p.1.above in
      (hung_graft t parent side tag z).same k j low (λ q. a.unfree (rw q (first_free_lem t p.0 p.2))) (λ q. a.no_head q.0) (λ q. off q.0)
      (λ q. off q.0)

  cut_elsewhere : (n : ℕ) → cut_refusal t n ≡ 0 → word (cut_out t n) k j ≡ word t k j
  cut_elsewhere n z =
      let c = cuttable t n z in
      let before : k ≢ namer_of t 0 n = other (namer_of t 0 n)
      (⊎_map (λ (z : namer_of t 0 n ≡ 0). (z, z)) (λ (m : Chained t (namer_of t 0 n)). m) (before_cases c)) in
      sym ((cut_graft c).same k j low (λ q. a.unchained (rw q c.leaf)) (λ q. a.no_head q.0) (λ q. before q.0)
      (λ q. other (holder t n) (hooked c).holder q.0))

  abbrev Same : List ℕ → Type 0
  Same u = word u k j ≡ word t k j

  pub never_taken : (c : Call) → word (after c t) k j ≡ word t k j
  unfolding after
  never_taken (hang parent side tag) = after_hang_lem t parent side Same tag (hung_elsewhere parent side tag) refl
  never_taken (hold parent side) = refl
  never_taken (hang_held parent side tag held) = after_held_lem t parent side held Same tag (hung_elsewhere parent side tag) refl
  never_taken (cut node) = after_cut_lem t node Same (cut_elsewhere node) refl
