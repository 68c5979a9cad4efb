-- The refusal from the answers of the steps. Rests on Form.
use mathlib.Core.Path.{◌≡◌, refl, sym, ap, subst, ◌∙◌}
use mathlib.Core.Bool.{true, false}
use mathlib.Core.List.{List, [], ◌∷◌}
use Prim.Native.Nat.{ℕ, ◌*◌, ◌≤◌, ◌<◌}
use native.Mathlib.Omega.{arith}
use lib.ListN.{length, take}
use lib.Seq.{length-take-le}
use borrow.Author.Tests.{ne_eqb, lt-ltb, le-ltb}
use Rattle.std.specs.Prelude.{Result, Ok, Err, IsErrAnd}
use Rattle.table.specs.declared.Refusal.{Refusal}
use Rattle.table.specs.declared.Refusal.TheVariants.{Chain, Placements}
use Rattle.table.specs.Cause.{number_of}
use Rattle.table.specs.Table.{records, chain}
use Rattle.table.specs.Refusal.{bad_length, bad_head, bad_chain, short_placements, fault, refusal}
use Rattle.table.proofs.Refused.{some_number, passed_on}
use Rattle.records.specs.inner.Reading.{Checked, Examined, TracedOf, ReadOf}
use Rattle.chains.specs.inner.Listing.{Shaped, Met}
use Rattle.trees.specs.inner.Steps.{Filled, Ordered}
use Rattle.records.proofs.Form.{form, first_of_two}

-- From the bytes alone.
refused : (t : List ℕ) (e : Refusal) (list order : List ℕ) → number_of e ≡ fault t → Examined t (Err e) list order
refused t e list order n = record { refusal = n; accepted = tt }

pub refused_form : (t : List ℕ) (e : Refusal) (r : Result ℕ Refusal) (list order : List ℕ) → IsErrAnd r (λ x. x ≡ e) → number_of e ≡ form t →
    Examined t r list order
unfolding fault
refused_form t e r list order p n =
    rw (passed_on r e p) (refused t e list order (first_of_two (bad_length t) (bad_head t) 1 2 _ _ n (some_number e)))

module _ (t list order : List ℕ) (s : Shaped t) where
  pub refused_chain : bad_chain t ≡ true → Examined t (Err Chain) list order
  unfolding fault
  refused_chain c = refused t Chain list order (rw (s.whole, s.tagless, c))

  module _ (c : bad_chain t ≡ false) where
    pub refused_later : (e : Refusal) (n : ℕ) (r : Result ℕ Refusal) → IsErrAnd r (λ x. x ≡ e) → Checked t (Err e) n order → Examined t r list order
    unfolding fault
    refused_later e n r p k = rw (passed_on r e p) (refused t e list order (k.cause ∙ rw (s.whole, s.tagless, c)))

    pub examined : (n : ℕ) (marks : List ℕ) → Met t (chain t) n list marks → Checked t (Ok tt) (length (take n list)) order → Examined t (Ok n) list order
    unfolding fault
    examined n marks m k =
        let e : length (take n list) ≡ n = length-take-le n list m.room in
        record {
          refusal = k.cause ∙ rw (s.whole, s.tagless, c);
          accepted = record { nodes = sym e ∙ ap length m.listed.listed; listed = m.listed.listed; ordered = subst (λ j. Ordered t j order) e k.ordered };
        }

-- And from the number of placements.
module _ (t : List ℕ) (places : ℕ) (list order : List ℕ) where
  pub refused_bytes : (e : Refusal) (r : Result ℕ Refusal) → IsErrAnd r (λ x. x ≡ e) → Examined t (Err e) list order → TracedOf t places r list order
  unfolding refusal
  refused_bytes e r p x = rw (passed_on r e p) (record { refusal = x.refusal ∙ rw (ne_eqb (fault t) 0 (λ z. some_number e (x.refusal ∙ z))); accepted = tt })

  module _ (n : ℕ) (x : Examined t (Ok n) list order) where
    pub refused_placements : places < 2 * records t → TracedOf t places (Err Placements) list order
    unfolding refusal short_placements
    refused_placements p = record { refusal = rw (sym x.refusal, lt-ltb places (2 * records t) p); accepted = tt }

    pub traced : 2 * records t ≤ places → TracedOf t places (Ok n) list order
    unfolding refusal short_placements
    traced p = record { refusal = rw (sym x.refusal, le-ltb places (2 * records t) p); accepted = x.accepted }

-- What is traced, and sized.
pub sized : (t : List ℕ) (places n : ℕ) (list order sizes : List ℕ) → TracedOf t places (Ok n) list order → Filled t (chain t) sizes →
    ReadOf t places (Ok n) list order sizes
sized t places n list order sizes d f = record {
  refusal = d.refusal;
  accepted = record { traced = d.accepted; sized = f.sized; none = f.none };
}

-- No nodes, nothing to be filled.
pub no_nodes : (t sizes : List ℕ) → length (chain t) ≡ 0 → Filled t [] sizes → Filled t (chain t) sizes
no_nodes t sizes e f = subst (λ (ks : List ℕ). Filled t ks sizes) (go (chain t) e) f
  where
    go : (ks : List ℕ) → length ks ≡ 0 → [] ≡ ks
    go [] e = refl
    go (k ∷ ks) e = absurd (omega arith)
