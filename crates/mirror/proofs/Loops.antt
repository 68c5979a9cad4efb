-- The loops over a list of records: what is done at each of them, i of which are done. Rests on lib.Seq.
use mathlib.Core.Path.{◌≡◌, sym, ap, ◌∙◌}
use mathlib.Core.List.{List, []}
use Prim.Native.Nat.{ℕ, suc, ◌+◌, ◌<◌}
use native.Mathlib.Omega.{arith}
use lib.Dec.{T}
use lib.ListN.{length, get_or, drop}
use lib.Seq.{drop-cons, drop-length}
use Rattle.table.specs.Lists.{member}
use Rattle.records.proofs.Scan.{member_at}
use Rattle.mirror.specs.Exchanged.{each}

-- f is done, from l₀ to l, at the first i records of the list.
pub record Done (f : ℕ → List ℕ → List ℕ) (list l₀ l : List ℕ) (i : ℕ) : Type 0 where
  pub rest : each f (drop i list) l ≡ each f list l₀

-- The next record, with its number as the code has it, is one of them.
pub listed : (list : List ℕ) {i k : ℕ} → i < length list → k ≡ get_or list i 0 → T (member k list)
listed list {i} h e = rw e (member_at list i h)

module _ {f : ℕ → List ℕ → List ℕ} {list l₀ l : List ℕ} {i : ℕ} where
  pub done_more : {l' : List ℕ} {k : ℕ} → i < length list → Done f list l₀ l i → k ≡ get_or list i 0 → l' ≡ f k l → Done f list l₀ l' (i + 1)
  unfolding each
  done_more {l'} {k} h d n e = record { rest = one (i + 1) (omega arith) }
    where
      one : (j : ℕ) → j ≡ suc i → each f (drop j list) l' ≡ each f list l₀
      one j s = rw (s, e, n) (sym (ap (λ (ks : List ℕ). each f ks l) (drop-cons list i 0 h)) ∙ d.rest)

  pub done_all : i ≡ length list → Done f list l₀ l i → l ≡ each f list l₀
  unfolding each
  done_all e d = let none : drop i list ≡ [] = rw e (drop-length list) in sym (ap (λ (ks : List ℕ). each f ks l) none) ∙ d.rest
