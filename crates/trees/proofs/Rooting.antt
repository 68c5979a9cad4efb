-- Cause 5 from the tests of the code. Rests on Lists, Chain and Causes.
use mathlib.Core.Path.{◌≡◌, refl, sym, ap, ◌∙◌}
use mathlib.Core.Bool.{Bool, true, false, not, ◌||◌, or_assoc, or-true, and-false, false≢true}
use mathlib.Core.List.{List, []}
use Prim.Native.Nat.{ℕ}
use native.Mathlib.Omega.{arith}
use lib.Dec.{eqb}
use lib.ListN.{length, set, length-set}
use lib.Seq.{get_or-set_same}
use borrow.Author.Tests.{eq-eqb, ne_eqb, eqb-true, eqb-false, not-false}
use Rattle.table.specs.Lists.{member}
use Rattle.table.specs.Table.{records, next_of, root_of, chain}
use Rattle.table.specs.Trees.{named}
use Rattle.table.specs.Refusal.{bad_chain, bad_links, is_empty, bad_tree}
use Rattle.chains.specs.inner.Listing.{Shaped, Listed}
use Rattle.trees.specs.inner.Steps.{Rooted, Ordered, Filled, Grown, named_twice, not_reached}
use Rattle.table.proofs.Lists.{T_true, T_false, or_false}
use Rattle.table.proofs.Chain.{follow_none, follow_empty}
use Rattle.table.proofs.Causes.{sound_within}

-- Where the head names a root, the table is not empty.
pub tree_tests : (t : List ℕ) → (root_of t ≡ 0 → ⊥) →
    bad_tree t ≡ not (member (root_of t) (chain t)) || ((not (eqb (named t (root_of t)) 0) || named_twice t) || not_reached t)
unfolding bad_tree is_empty named_twice not_reached
tree_tests t h =
    rw (ne_eqb (root_of t) 0 h, and-false) (ap (λ (b : Bool). not (member (root_of t) (chain t)) || b)
    (sym (or_assoc (not (eqb (named t (root_of t)) 0)) (named_twice t) (not_reached t))))

-- Without one, it is empty if the chain is.
tree_empty : (t : List ℕ) → Shaped t → root_of t ≡ 0 → length (chain t) ≡ 0 → bad_tree t ≡ false
unfolding bad_tree is_empty chain
tree_empty t s e l =
    rw (eq-eqb (next_of t 0) 0 (follow_empty (records t) t (next_of t 0) s.head l), eq-eqb (root_of t) 0 e)

tree_headless : (t : List ℕ) → bad_chain t ≡ false → root_of t ≡ 0 → (length (chain t) ≡ 0 → ⊥) → bad_tree t ≡ true
unfolding bad_tree is_empty
tree_headless t b e l =
    rw (ne_eqb (next_of t 0) 0 (λ n. l (ended n)), (T_false (member (root_of t) (chain t))).0 (λ m. omega (arith, sound_within t b (root_of t) m)))
  where
    ended : next_of t 0 ≡ 0 → length (chain t) ≡ 0
    ended n = unfold chain in (rw (n, follow_none))

pub grown_bad : (t : List ℕ) (n : ℕ) (order : List ℕ) → bad_tree t ≡ true → Grown t false n order
grown_bad t n order e = record { good = rw e; ordered = λ z. absurd (false≢true z) }

-- The sizes before they are filled.
pub unfilled : (t sizes : List ℕ) → length sizes ≡ 4097 → Filled t [] (set sizes 0 0)
unfolding member
unfilled t sizes l = record { long = simp length-set l; sized = λ k h. absurd h; none = get_or-set_same sizes 0 0 0 (omega arith) }

pub rootless : (t list order : List ℕ) → Listed t (chain t) list → root_of t ≡ 0 → Grown t (eqb (length list) 0) (length list) order
rootless t list order l e = go (eqb (length list) 0) refl
  where
    go : (b : Bool) → eqb (length list) 0 ≡ b → Grown t b (length list) order
    go true d = let z = eqb-true (length list) 0 d in
        record {
          good = rw (tree_empty t l.shaped e (ap length (sym l.listed) ∙ z));
          ordered = λ y. record { enough = omega arith; queued = λ some. absurd (some z) };
        }
    go false d = grown_bad t (length list) order (tree_headless t l.sound e (λ z. eqb-false (length list) 0 d (ap length l.listed ∙ z)))

-- With a root other than zero.
module _ (t : List ℕ) (root : ℕ) (e : root ≡ root_of t) (some : root ≡ 0 → ⊥) where
  tests : bad_tree t ≡ not (member root (chain t)) || ((not (eqb (named t (root_of t)) 0) || named_twice t) || not_reached t)
  tests = rw e (tree_tests t (λ z. some (e ∙ z)))

  pub off_chain : member root (chain t) ≡ false → bad_tree t ≡ true
  off_chain m = rw (tests, m)

  pub ill_named : not (eqb (named t (root_of t)) 0) || named_twice t ≡ true → bad_tree t ≡ true
  ill_named n = rw (tests, n, or-true)

  module _ (m : member root (chain t) ≡ true) (n : not (eqb (named t (root_of t)) 0) || named_twice t ≡ false) where
    pub grown : (r : Bool) (k : ℕ) (order : List ℕ) → r ≡ not (not_reached t) → (r ≡ true → Ordered t k order) → Grown t r k order
    grown r k order d o = record { good = rw (tests, m, n, d); ordered = o }

    pub rooted : Shaped t → bad_chain t ≡ false → bad_links t ≡ false → Rooted t
    rooted s c l =
        let (u, o) = (or_false (not (eqb (named t (root_of t)) 0)) (named_twice t)).0 n in
        record {
          shaped = s;
          sound = c;
          linked = l;
          root = rw (← e) ((T_true (member root (chain t))).1 m);
          unnamed = eqb-true (named t (root_of t)) 0 (not-false _ u);
          once = o;
        }
