-- What any list of calls keeps, refused or not: the table is accepted, and chained and free records number the same (`kept_all`). Rests on Answering
-- (`hanging`, `cutting`), Inserted, Hanging and Cutting.
use mathlib.Core.Path.{◌≡◌, refl, ap, ◌∙◌}
use mathlib.Core.List.{List, [], ◌∷◌}
use Prim.Native.Nat.{ℕ}
use native.Mathlib.Omega.{arith}
use lib.ListN.{length}
use Rattle.table.specs.Table.{chain, first_free}
use Rattle.table.specs.Refusal.{fault}
use Rattle.hanging.specs.Hanging.{hang_refusal, hung, after_hang}
use Rattle.hanging.specs.Holding.{after_held}
use Rattle.cutting.specs.Cutting.{cut_out, after_cut}
use Rattle.hanging.proofs.Answering.{after_hang_lem, after_held_lem}
use Rattle.cutting.proofs.Answering.{after_cut_lem}
use Rattle.changes.specs.Leaf.{HungLeaf, CutLeaf}
use Rattle.changes.specs.Calls.{Call, hang, hold, hang_held, cut, after, after_all, Conserved}
use Rattle.changes.proofs.Inserted.{behind_length}
use Rattle.changes.proofs.Hanging.{hang_leaf}
use Rattle.changes.proofs.Cutting.{cut_leaf}

-- The leaf is one free record fewer, and one chained record more.
hung_conserved : (t : List ℕ) (parent side tag : ℕ) → HungLeaf t parent side tag → Conserved t (hung t parent side tag)
hung_conserved t parent side tag l = record {
  accepted = l.accepted;
  number = omega (arith, behind_length parent (first_free t) 0 (chain t) (chain (hung t parent side tag)) l.behind, ap length l.taken);
}

module _ (t : List ℕ) (parent side tag : ℕ) (ok : fault t ≡ 0) where
  hung_kept : hang_refusal t parent side ≡ 0 → Conserved t (hung t parent side tag)
  hung_kept e = hung_conserved t parent side tag (hang_leaf t parent side tag e)

  kept_hang : Conserved t (after_hang t parent side tag)
  kept_hang = after_hang_lem t parent side (Conserved t) tag hung_kept (record { accepted = ok; number = refl })

  kept_held : (held : ℕ) → Conserved t (after_held t parent side tag held)
  kept_held held = after_held_lem t parent side held (Conserved t) tag hung_kept (record { accepted = ok; number = refl })

-- The leaf is one free record more, and one chained record fewer.
cut_conserved : (t : List ℕ) (k : ℕ) → CutLeaf t k → Conserved t (cut_out t k)
cut_conserved t k c = record {
  accepted = c.accepted;
  number = omega (arith, behind_length c.before k 0 (chain (cut_out t k)) (chain t) c.behind, ap length c.given);
}

kept_cut : (t : List ℕ) (k : ℕ) → fault t ≡ 0 → Conserved t (after_cut t k)
kept_cut t k ok = after_cut_lem t k (Conserved t) (λ e. cut_conserved t k (cut_leaf t k e)) (record { accepted = ok; number = refl })

-- One call, and any list of calls.
pub kept_call : (c : Call) (t : List ℕ) → fault t ≡ 0 → Conserved t (after c t)
unfolding after
kept_call (hang parent side tag) t ok = kept_hang t parent side tag ok
kept_call (hold parent side) t ok = record { accepted = ok; number = refl }
kept_call (hang_held parent side tag held) t ok = kept_held t parent side tag ok held
kept_call (cut node) t ok = kept_cut t node ok

pub kept_all : (cs : List Call) (t : List ℕ) → fault t ≡ 0 → Conserved t (after_all cs t)
unfolding after_all
kept_all [] t ok = record { accepted = ok; number = refl }
kept_all (c ∷ cs) t ok =
    let k = kept_call c t ok in
    let r = kept_all cs (after c t) k.accepted in
    record { accepted = r.accepted; number = r.number ∙ k.number }
