-- Of records on neither chain "left, right and tag change no answer": of cutting, `off_chain_cut`. Rests on Lists and on that law of tables.
use mathlib.Core.Path.{◌≡◌, refl}
use mathlib.Core.Bool.{Bool, true, false, not, ◌||◌}
use mathlib.Core.List.{List}
use Prim.Native.Nat.{ℕ}
use native.Mathlib.Omega.{arith}
use lib.Dec.{eqb}
use Rattle.table.specs.Lists.{member}
use Rattle.table.specs.Table.{left_of, right_of, chain}
use Rattle.table.specs.OffChain.{OffChain}
use Rattle.table.proofs.Lists.{T_true}
use Rattle.table.proofs.OffChain.{chain_same, fault_same}
use Rattle.cutting.specs.Cutting.{still_root, no_leaf, cut_refusal}

-- What is asked of a record off the chain is not asked of its words.
module _ {t u : List ℕ} (h : OffChain t u) where
  root_same : (k : ℕ) → still_root u k ≡ still_root t k
  unfolding still_root
  root_same k = rw (h.head 1 (omega arith), chain_same h)

  leaf_same : (k : ℕ) → no_leaf u k ≡ no_leaf t k
  unfolding no_leaf
  leaf_same k = rw (chain_same h, root_same k) (go (member k (chain t)) refl)
    where
      go : (b : Bool) → member k (chain t) ≡ b →
          not b || (not (eqb (left_of u k) 0) || (not (eqb (right_of u k) 0) || still_root t k)) ≡
          not b || (not (eqb (left_of t k) 0) || (not (eqb (right_of t k) 0) || still_root t k))
      go true m =
          let c = (T_true (member k (chain t))).1 m in
          rw (h.chained k 1 c (omega arith), h.chained k 2 c (omega arith))
      go false m = refl

  pub off_chain_cut : (k : ℕ) → cut_refusal u k ≡ cut_refusal t k
  unfolding cut_refusal
  off_chain_cut k = rw (fault_same h, leaf_same k)
