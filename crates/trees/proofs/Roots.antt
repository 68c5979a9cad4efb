-- Listing the roots: the head's, and then those of the nodes of the chain that are not named, one node after the other. Rests on Lists, Causes and Scan.
use mathlib.Core.Path.{◌≡◌, sym, ap, ◌∙◌}
use mathlib.Core.Bool.{Bool, true, false, not, ◌||◌, and-false, or-true}
use mathlib.Core.List.{List, [], ◌∷◌, ◌++◌, append-nil}
use Prim.Native.Nat.{ℕ, suc, ◌+◌, ◌≤◌, ◌<◌}
use native.Mathlib.Numerals.{add-one}
use native.Mathlib.Omega.{arith}
use borrow.Author.Count.{below_none, below_more}
use lib.Dec.{eqb, ltb}
use lib.ListN.{length, get_or, take, set, length-set}
use lib.Seq.{take-suc, take-suc-set, take-length}
use borrow.Author.Tests.{eq-eqb, ne_eqb, lt-ltb, le-ltb}
use Rattle.table.specs.Lists.{select}
use Rattle.table.specs.Table.{root_of, chain}
use Rattle.table.specs.Trees.{named, starts_tree}
use Rattle.chains.specs.inner.Listing.{Listed}
use Rattle.trees.specs.inner.Steps.{Tallied, Found, named_twice}
use Rattle.table.proofs.Lists.{or_false, select_append}
use Rattle.table.proofs.Causes.{sound_length}
use Rattle.chains.proofs.Scan.{listed_inside, scan_hit, scan_none}

-- One number passes, or none.
pub select_one : (f : ℕ → Bool) (k : ℕ) → f k ≡ true → select f (k ∷ []) ≡ k ∷ []
unfolding select
select_one f k e = rw (select, e)

pub select_none : (f : ℕ → Bool) (k : ℕ) → f k ≡ false → select f (k ∷ []) ≡ []
unfolding select
select_none f k e = rw (select, e)

-- The roots among the first i nodes are listed behind the head's, and none of these nodes is named twice.
pub record Noting (t list found : List ℕ) (count i : ℕ) : Type 0 where
  pub once : (j : ℕ) → j < i → ltb 1 (named t (get_or list j 0)) ≡ false
  pub listed : take count found ≡ root_of t ∷ select (starts_tree t) (take i list)
  pub few : count ≤ suc i
  pub long : length found ≡ 4097

module _ (t list : List ℕ) (l : Listed t (chain t) list) (root : ℕ) (e : root ≡ root_of t) (tally : List ℕ) (y : Tallied t tally) where
  pub nodes_few : length list < 4097
  nodes_few = omega (arith, ap length l.listed, sound_length t l.shaped.whole l.sound, l.shaped.room)

  pub note_start : (found : List ℕ) → length found ≡ 4097 → Noting t list (set found 0 root) 1 0
  unfolding select
  note_start found h = record {
    once = below_none _;
    listed = take-suc-set found 0 root (omega arith) ∙ ap (λ (k : ℕ). k ∷ []) e;
    few = omega arith;
    long = simp length-set h;
  }

  -- The head's root is named.
  pub note_named : root < 4097 → (get_or tally root 0 ≡ 0 → ⊥) → not (eqb (named t (root_of t)) 0) || named_twice t ≡ true
  note_named b h = rw (sym e, ne_eqb (named t root) 0 (λ z. h (y.tallies root b ∙ z)))

  module _ (b : root < 4097) (z : get_or tally root 0 ≡ 0) where
    head_unnamed : not (eqb (named t (root_of t)) 0) ≡ false
    head_unnamed = rw (← e, eq-eqb (named t root) 0 (sym (y.tallies root b) ∙ z))

    pub note_end : (found : List ℕ) (count i : ℕ) → Noting t list found count i → i ≡ length list → Found t count found
    unfolding named_twice
    note_end found count i g m = record {
      well = (or_false (not (eqb (named t (root_of t)) 0)) (named_twice t)).1
          (head_unnamed, scan_none t (chain t) list l (λ k. ltb 1 (named t k)) (λ j h. g.once j (omega (arith, h, m))));
      room = omega (arith, g.few, nodes_few, g.long, m);
      listed = g.listed ∙ ap (λ (ks : List ℕ). root_of t ∷ select (starts_tree t) ks) (ap (λ (j : ℕ). take j list) m ∙ take-length list ∙ l.listed);
    }

  module _ (i : ℕ) (h : i < length list) (k : ℕ) (p : k ≡ get_or list i 0) where
    pub note_inside : k < 4097
    note_inside = omega (arith, p, listed_inside t (chain t) list l i h, l.shaped.room)

    tallied : get_or tally k 0 ≡ named t (get_or list i 0)
    tallied = y.tallies k note_inside ∙ ap (named t) p

    pub note_twice : 1 < get_or tally k 0 → not (eqb (named t (root_of t)) 0) || named_twice t ≡ true
    unfolding named_twice
    note_twice g = rw (scan_hit t (chain t) list l (λ n. ltb 1 (named t n)) i h (lt-ltb 1 (named t (get_or list i 0)) (omega (arith, tallied))), or-true)

    module _ (found : List ℕ) (count : ℕ) (g : Noting t list found count i) (one : get_or tally k 0 ≤ 1) where
      once_more : (j : ℕ) → j < i + 1 → ltb 1 (named t (get_or list j 0)) ≡ false
      once_more = below_more _ _ g.once (le-ltb 1 (named t (get_or list i 0)) (omega (arith, tallied)))

      next : select (starts_tree t) (take (i + 1) list) ≡ select (starts_tree t) (take i list) ++ select (starts_tree t) (get_or list i 0 ∷ [])
      next = ap (select (starts_tree t)) (rw add-one (take-suc list i 0 h)) ∙ select_append (starts_tree t) (take i list) (get_or list i 0 ∷ [])

      -- A root.
      pub note_root : (k ≡ root → ⊥) → get_or tally k 0 ≡ 0 → Noting t list (set found count k) (count + 1) (i + 1)
      unfolding starts_tree
      note_root n d =
          let passes : starts_tree t (get_or list i 0) ≡ true =
          rw (ne_eqb (get_or list i 0) (root_of t) (λ q. n (p ∙ q ∙ sym e)), eq-eqb (named t (get_or list i 0)) 0 (sym tallied ∙ d)) in
          rw p (record {
            once = once_more;
            listed = rw add-one (take-suc-set found count (get_or list i 0) (omega (arith, g.few, g.long, nodes_few)))
                ∙ ap (λ (ks : List ℕ). ks ++ (get_or list i 0 ∷ [])) g.listed
                ∙ ap (λ (ks : List ℕ). root_of t ∷ ks) (sym (next ∙ ap (λ (ks : List ℕ). select (starts_tree t) (take i list) ++ ks) (select_one _ _ passes)));
            few = omega (arith, g.few);
            long = simp length-set g.long;
          })

      -- Another node.
      other : starts_tree t (get_or list i 0) ≡ false → Noting t list found count (i + 1)
      other fails = record {
        once = once_more;
        listed = g.listed ∙ ap (λ (ks : List ℕ). root_of t ∷ ks)
            (sym (next ∙ ap (λ (ks : List ℕ). select (starts_tree t) (take i list) ++ ks) (select_none _ _ fails) ∙ append-nil _));
        few = omega (arith, g.few);
        long = g.long;
      }

      pub note_head : k ≡ root → Noting t list found count (i + 1)
      unfolding starts_tree
      note_head q = other (rw (eq-eqb (get_or list i 0) (root_of t) (sym p ∙ q ∙ e)))

      pub note_child : (get_or tally k 0 ≡ 0 → ⊥) → Noting t list found count (i + 1)
      unfolding starts_tree
      note_child d = other (rw (ne_eqb (named t (get_or list i 0)) 0 (λ q. d (tallied ∙ q)), and-false))
