-- "Cutting a box just hung restores every byte": `restored`. Rests on Bytes (`table`), Inserted, GrowChain, GrowSound, PruneChain, Hanging and Undone.
use mathlib.Core.Path.{◌≡◌, ap, ◌∙◌}
use mathlib.Core.Logic.{⊎_elim, ⊎_map}
use mathlib.Core.List.{List}
use Prim.Native.Nat.{ℕ, ◌<◌}
use native.Mathlib.Omega.{arith}
use lib.ListN.{length}
use Rattle.table.specs.Table.{chain, Chained, first_free, Empty}
use Rattle.table.specs.Writing.{Bytes}
use Rattle.table.proofs.Bytes.{word_small, bytes_all}
use Rattle.hanging.specs.Hanging.{hang_refusal, hung}
use Rattle.cutting.specs.Cutting.{cut_refusal, after_cut}
use Rattle.changes.proofs.Inserted.{behind_length}
use Rattle.changes.proofs.GrowChain.{Growth, off_chain, graft_behind}
use Rattle.changes.proofs.GrowSound.{leaf_chained, still_chained, root_leaf, root_kept, top_chained, grown_accepted}
use Rattle.changes.proofs.PruneChain.{Prunable}
use Rattle.changes.proofs.Hanging.{hung_graft, growth}
use Rattle.changes.proofs.Undone.{cut_allowed, after_undoes}

-- The leaf more can be taken off again.
grown_prunable : {t u : List ℕ} {c p j f : ℕ} → Growth t u c p j f → Prunable u c p f
grown_prunable {t} {u} {c} {p} {j} {f} a = record {
  accepted = grown_accepted a;
  leaf = leaf_chained a;
  before = ⊎_map (λ (z : c ≡ 0). z) (still_chained a c) a.before;
  holder = ⊎_map (λ (z : (p ≡ 0) × Empty t). (z.0, root_leaf a z.0)) (still_chained a p) a.above;
  alone = λ e. ⊎_elim (λ (z : (p ≡ 0) × Empty t). omega (arith, behind_length c f 0 (chain t) (chain u) (graft_behind a), ap length z.1.0))
      (λ (h : Chained t p). absurd (off_chain a (rw (e ∙ root_kept a h) (top_chained a h)))) a.above;
}

hung_bytes : (t : List ℕ) (parent side tag : ℕ) → Bytes t → tag < 65536 → Bytes (hung t parent side tag)
unfolding hung
hung_bytes t parent side tag b s =
    bytes_all _ t b (word_small t 0 2 b, (s, (word_small t (first_free t) 0 b, (word_small t parent 0 b, (word_small t 0 2 b, tt)))))

pub cut_answers : (t : List ℕ) (parent side tag : ℕ) → hang_refusal t parent side ≡ 0 → cut_refusal (hung t parent side tag) (first_free t) ≡ 0
cut_answers t parent side tag h = cut_allowed (hung_graft t parent side tag h) (grown_prunable (growth t parent side tag h))

pub restored : (t : List ℕ) (parent side tag : ℕ) → Bytes t → tag < 65536 → hang_refusal t parent side ≡ 0 →
    after_cut (hung t parent side tag) (first_free t) ≡ t
restored t parent side tag b s h =
    after_undoes (hung_graft t parent side tag h) (grown_prunable (growth t parent side tag h)) b (hung_bytes t parent side tag b s)
