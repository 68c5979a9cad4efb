-- The breadth-first order: how it starts and grows, within the chain. Rests on Lists, Chain, Causes and Scan.
use mathlib.Core.Path.{◌≡◌, refl, sym, ap, ◌∙◌, subst}
use mathlib.Core.Logic.{inr}
use mathlib.Core.List.{List, [], ◌∷◌, ◌++◌, append_assoc, append-nil}
use Prim.Native.Nat.{ℕ, zero, suc, ◌+◌, ◌≤◌, ◌<◌}
use native.Mathlib.Decide.{dec_lt}
use native.Mathlib.Numerals.{add-one}
use native.Mathlib.Omega.{arith}
use lib.Dec.{T, eqb-zero-suc, eqb-suc-zero}
use lib.ListN.{length, get_or, take, drop, length-append, length-drop, take-append-drop}
use lib.Seq.{take-suc, take-length, get_or-take, take-append-le, length-take-le}
use Rattle.table.specs.Lists.{member, count}
use Rattle.table.specs.Table.{records, left_of, right_of, chain, root_of, Chained}
use Rattle.table.specs.Trees.{links, roots}
use Rattle.trees.specs.inner.Steps.{Rooted, Queue, present, named_twice}
use Rattle.table.proofs.Lists.{T_false, same, count_append, member_count, member_none, Within, length_within, links_within}
use Rattle.table.proofs.Chain.{links_append}
use Rattle.table.proofs.Causes.{chain_positive, roots_chained, Parented, sound_within, sound_length, sound_once, named_within}
use Rattle.chains.proofs.Scan.{member_at}

pub present_none : (k : ℕ) → k ≡ 0 → present (k ∷ []) ≡ []
unfolding present
present_none zero e = refl
present_none (suc k) e = absurd (omega arith)

pub present_one : (k : ℕ) → (k ≡ 0 → ⊥) → present (k ∷ []) ≡ k ∷ []
unfolding present
present_one zero h = absurd (h refl)
present_one (suc k) h = refl

pub present_append : (a b : List ℕ) → present (a ++ b) ≡ present a ++ present b
unfolding present
present_append [] b = refl
present_append (zero ∷ ks) b = present_append ks b
present_append (suc k ∷ ks) b = ap (λ (l : List ℕ). suc k ∷ l) (present_append ks b)

-- Only zeros are left out.
pub count_present : (x : ℕ) (ks : List ℕ) → count (suc x) (present ks) ≡ count (suc x) ks
unfolding present count
count_present x [] = refl
count_present x (zero ∷ ks) = rw eqb-suc-zero (omega (arith, count_present x ks))
count_present x (suc k ∷ ks) = ap (λ (n : ℕ). same (suc x) (suc k) + n) (count_present x ks)

pub zero_present : (ks : List ℕ) → count 0 (present ks) ≡ 0
unfolding present count
zero_present [] = refl
zero_present (zero ∷ ks) = zero_present ks
zero_present (suc k ∷ ks) = rw eqb-zero-suc (omega (arith, zero_present ks))

take_within : (n : ℕ) (ks : List ℕ) → Within (take n ks) ks
take_within n ks k = omega (arith, count_append k (take n ks) (drop n ks), ap (count k) (take-append-drop n ks))

-- The children of a list of nodes, after them the children of one more.
children : (t ks : List ℕ) (k : ℕ) → present (links t (ks ++ (k ∷ []))) ≡ (present (links t ks) ++ present (left_of t k ∷ [])) ++ present (right_of t k ∷ [])
unfolding links
children t ks k =
    rw (links_append, present_append, append_assoc) (ap (λ (l : List ℕ). present (links t ks) ++ l) (present_append (left_of t k ∷ []) (right_of t k ∷ [])))

-- Zero is no root, and the roots and the children of nodes stand no more often than on the chain.
module _ (t : List ℕ) (g : Parented t) (c : Chained t (root_of t)) where
  no_root_zero : count 0 (roots t) ≡ 0
  no_root_zero = (member_none 0 (roots t)).0 ((T_false (member 0 (roots t))).0 (λ m. omega (arith, chain_positive t 0 (roots_chained t c 0 m))))

  pub family_within : (ks : List ℕ) → Within ks (chain t) → Within (roots t ++ present (links t ks)) (chain t)
  family_within ks w zero = omega (arith, count_append 0 (roots t) (present (links t ks)), no_root_zero, zero_present (links t ks))
  family_within ks w (suc x) =
      omega (
        arith,
        count_append (suc x) (roots t) (present (links t ks)),
        count_present x (links t ks),
        links_within t (suc x) ks (chain t) w,
        named_within t g (suc x) (omega arith),
      )

module _ (t : List ℕ) (r : Rooted t) where
  pub parented : Parented t
  unfolding named_twice
  parented = record { linked = r.linked; root = inr r.root; unnamed = r.unnamed; once = sound_once t r.once }

  family : (ks : List ℕ) → Within ks (chain t) → Within (roots t ++ present (links t ks)) (chain t)
  family = family_within t parented r.root

  pub queue_start : Queue t 0 (roots t)
  unfolding links present count
  queue_start = record {
    listed = sym (append-nil (roots t));
    early = λ i h. absurd (omega arith);
    within = λ k. omega (arith, count_append k (roots t) [], family [] (λ k. omega arith) k);
  }

  module _ (h : ℕ) (o : List ℕ) (q : Queue t h o) (lt : h < length o) where
    grown : List ℕ
    grown = (o ++ present (left_of t (get_or o h 0) ∷ [])) ++ present (right_of t (get_or o h 0) ∷ [])

    kept : (i : ℕ) → i ≤ length o → take i grown ≡ take i o
    unfolding grown
    kept i le = rw append_assoc (take-append-le i o _ le)

    next : take (suc h) o ≡ take h o ++ (get_or o h 0 ∷ [])
    next = take-suc o h 0 lt

    listed : grown ≡ roots t ++ present (links t (take (suc h) o))
    unfolding grown
    listed =
        let C = present (links t (take h o)) in
        let l = present (left_of t (get_or o h 0) ∷ []) in
        let m = present (right_of t (get_or o h 0) ∷ []) in
        ap (λ (k : List ℕ). (k ++ l) ++ m) q.listed ∙ ap (λ (k : List ℕ). k ++ m) (append_assoc (roots t) C l) ∙ append_assoc (roots t) (C ++ l) m
        ∙ sym (ap (λ (k : List ℕ). roots t ++ present (links t k)) next ∙ ap (λ (k : List ℕ). roots t ++ k) (children t (take h o) (get_or o h 0)))

    early : (i : ℕ) → i < suc h → i < length (roots t) + length (present (links t (take i grown)))
    early i le = rw (kept i (omega arith)) (go (dec_lt i h))
      where
        go : Dec (i < h) → i < length (roots t) + length (present (links t (take i o)))
        go (yes l) = q.early i l
        go (no n) = let e : i ≡ h = omega arith in rw e (omega (arith, ap length q.listed, length-append (roots t) (present (links t (take h o)))))

    pub queue_step : Queue t (h + 1) ((o ++ present (left_of t (get_or o h 0) ∷ [])) ++ present (right_of t (get_or o h 0) ∷ []))
    unfolding grown
    queue_step = rw add-one
        (record {
          listed = listed ∙ ap (λ (l : List ℕ). roots t ++ present (links t l)) (sym (kept (suc h) lt));
          early = early;
          within = rw listed (family (take (suc h) o) (λ k. omega (arith, take_within (suc h) o k, q.within k)));
        })

  queue_length : (h : ℕ) (o : List ℕ) → Queue t h o → length o < 4097
  queue_length h o q = omega (arith, length_within o (chain t) q.within, sound_length t r.shaped.whole r.sound, r.shaped.room)

pub queue_chained : (t : List ℕ) (h : ℕ) (o : List ℕ) → Queue t h o → (i : ℕ) → i < length o → T (member (get_or o i 0) (chain t))
queue_chained t h o q i l = (member_count (get_or o i 0) (chain t)).1 (omega
    (arith, (member_count (get_or o i 0) o).0 (member_at o i l), q.within (get_or o i 0)))

-- An array whose first `tail` numbers are such an order, as far as its node `head`.
pub record Spreading (t order : List ℕ) (head tail : ℕ) : Type 0 where
  pub queue : Queue t head (take tail order)
  pub ahead : head ≤ tail
  pub room : tail < 4097
  pub long : length order ≡ 4097

pub spread_end : (t order : List ℕ) (head tail : ℕ) → Spreading t order head tail → tail ≤ head → (tail ≤ 4097) × Queue t tail (take tail order)
spread_end t order head tail s le = let e : head ≡ tail = omega (arith, s.ahead) in
    (omega (arith, s.room), subst (λ (h : ℕ). Queue t h (take tail order)) e s.queue)

module _ (t order : List ℕ) (r : Rooted t) where
  pub roots_few : length (roots t) < 4097
  roots_few = queue_length t r 0 (roots t) (queue_start t r)

  pub spread_start : (list : List ℕ) → list ≡ roots t → length order ≡ 4097 → Spreading t (list ++ drop (length list) order) 0 (length list)
  spread_start list e l = record {
    queue = rw (take-append-le (length list) list _ (omega arith), take-length, e) (queue_start t r);
    ahead = omega arith;
    room = omega (arith, ap length e, roots_few);
    long = omega (arith, ap length e, roots_few, length-append list (drop (length list) order), length-drop (length list) order);
  }

  module _ (head tail : ℕ) (s : Spreading t order head tail) (lt : head < tail) (k : ℕ) (p : k ≡ get_or order head 0) where
    first_tail : length (take tail order) ≡ tail
    first_tail = length-take-le tail order (omega (arith, s.room, s.long))

    at_head : get_or (take tail order) head 0 ≡ k
    at_head = get_or-take tail order head 0 lt ∙ sym p

    pub spread_inside : k < records t
    spread_inside = rw (← at_head) (sound_within t r.sound _ (queue_chained t head (take tail order) s.queue head (omega (arith, first_tail)))).1

    module _ (a b : ℕ) (ea : a ≡ left_of t k) (eb : b ≡ right_of t k) where
      step : Queue t (head + 1) ((take tail order ++ present (a ∷ [])) ++ present (b ∷ []))
      step = rw (ea, eb, ← at_head) (queue_step t r head (take tail order) s.queue (omega (arith, first_tail)))

      pub spread_room : tail + length (present (a ∷ [])) + length (present (b ∷ [])) < 4097
      spread_room =
          omega (
            arith,
            first_tail,
            queue_length t r (head + 1) _ step,
            length-append (take tail order ++ present (a ∷ [])) (present (b ∷ [])),
            length-append (take tail order) (present (a ∷ [])),
          )

      pub spread_step : (mid after : List ℕ) (m n : ℕ) → m ≡ tail + length (present (a ∷ [])) → take m mid ≡ take tail order ++ present (a ∷ []) →
          n ≡ m + length (present (b ∷ [])) → take n after ≡ take m mid ++ present (b ∷ []) → length after ≡ 4097 → Spreading t after (head + 1) n
      spread_step mid after m n em tm en tn l = record { queue = rw (tn, tm) step; ahead = omega arith; room = omega (arith, spread_room); long = l }
