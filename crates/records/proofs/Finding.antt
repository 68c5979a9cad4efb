-- Going through listed nodes for a record: what std's `contains` says, in the words of the definitions. Rests on Lists (`table`) and Nodes.
use mathlib.Core.Path.{◌≡◌, refl, sym, ap, ap₂, ◌∙◌}
use mathlib.Core.Bool.{Bool, true, ◌||◌}
use mathlib.Core.List.{List, [], ◌∷◌}
use Prim.Native.Nat.{ℕ, ◌<◌}
use Rattle.std.specs.Prelude.{nat_eq}
use Rattle.std.specs.List.{list_any}
use Rattle.std.proofs.lemmas.Cmp.{nat_eq_equiv}
use Rattle.table.specs.Lists.{member}
use Rattle.table.specs.Table.{records, chain}
use Rattle.table.proofs.Lists.{T_true}
use Rattle.records.proofs.Nodes.{chained_below}
use Rattle.records.specs.inner.Reading.{Nodes}

-- What `contains` asks of a list is whether it has the number.
pub contained : (k : ℕ) (ks : List ℕ) → list_any (λ n. nat_eq n k) ks ≡ member k ks
unfolding member
contained k [] = refl
contained k (n ∷ ns) = ap₂ (λ a b. a || b) (nat_eq_equiv.symm n k) (contained k ns)

pub on_chain : {t list : List ℕ} → Nodes t list → (k : ℕ) → list_any (λ n. nat_eq n k) list ≡ member k (chain t)
on_chain {t} {list} l k = contained k list ∙ ap (member k) l.listed

-- What is found so is on the chain, and lies in the table.
module _ {t list : List ℕ} (l : Nodes t list) (k : ℕ) {found : Bool} (is : found ≡ list_any (λ n. nat_eq n k) list) (e : found ≡ true) where
  pub chained : member k (chain t) ≡ true
  chained = sym (on_chain l k) ∙ sym is ∙ e

  pub inside : k < records t
  inside = chained_below l k ((T_true (member k (chain t))).1 chained)
