-- The lines of the nodes, written one behind the other along the chain. Rests on Puts and on the laws of an accepted table.
use mathlib.Core.Path.{◌≡◌, refl, sym, ap, ◌∙◌}
use mathlib.Core.Logic.{inl, inr}
use mathlib.Core.List.{List, [], ◌∷◌}
use Prim.Native.Nat.{ℕ, zero, suc, ◌+◌, ◌-◌, ◌*◌, ◌≤◌, ◌<◌}
use native.Mathlib.Numerals.{sub-one}
use native.Mathlib.Omega.{arith}
use lib.Dec.{T}
use lib.ListN.{length}
use Rattle.segment.specs.declared.Point.{Point}
use Rattle.placements.specs.Placements.{point_of}
use Rattle.table.specs.Lists.{member}
use Rattle.table.specs.Table.{records, next_of, tag_of, follow, chain}
use Rattle.table.specs.Refusal.{refusal}
use Rattle.table.proofs.Lists.{member_cons}
use Rattle.table.proofs.Accepted.{refusal_none, chain_within}
use Rattle.fields.specs.Fields.{decimal, fields}
use Rattle.text.specs.Text.{node_line, node_lines}
use Rattle.fields.specs.declared.Writer.{Writer}
use Rattle.fields.specs.inner.Put.{HasRoom, Put}
use Rattle.fields.proofs.Puts.{put_then, put_nothing, put_length}

pub put_node : (t p : List ℕ) (k g : ℕ) {P : Point} {a b c : Writer} → P ≡ point_of p k → g ≡ tag_of t k → Put (decimal k) a b →
    Put (fields (P.column ∷ P.row ∷ g ∷ [])) b c → Put (node_line t p k) a c
unfolding node_line
put_node t p k g d e x y = put_then x (rw (d, e) at y)

-- A chain is followed to its end in as many steps as it has nodes.
follow_length : (n : ℕ) (t : List ℕ) (k : ℕ) → follow (length (follow n t k)) t k ≡ follow n t k
unfolding follow
follow_length zero t k = refl
follow_length (suc n) t zero = refl
follow_length (suc n) t (suc k) = ap (λ (l : List ℕ). suc k ∷ l) (follow_length n t (next_of t (suc k)))

-- The next n nodes are k and those behind it.
follow_cons : (n : ℕ) (t : List ℕ) (k : ℕ) → 0 < n → length (follow n t k) ≡ n → follow n t k ≡ k ∷ follow (n - 1) t (next_of t k)
unfolding follow
follow_cons zero t k h e = absurd (omega arith)
follow_cons (suc n) t zero h e = absurd (omega arith)
follow_cons (suc n) t (suc k) h e = rw (sub-one (suc n))

-- From the node k on, n nodes are left to write: whoever does writes all lines.
pub record Going (t p : List ℕ) (first now : Writer) (n k : ℕ) : Type 0 where
  pub small : k < 65536
  pub room : HasRoom (24 * n) now
  pub same : length now.out.now ≡ length first.out.now
  pub full : length (follow n t k) ≡ n
  pub within : (m : ℕ) → T (member m (follow n t k)) → (m < records t) × (2 * m + 1 < length p)
  pub rest : (w : Writer) → Put (node_lines t p (follow n t k)) now w → Put (node_lines t p (chain t)) first w

module _ (t p : List ℕ) where
  pub going_start : {a : Writer} {n k : ℕ} → refusal t (length p) ≡ 0 → n ≡ length (chain t) → HasRoom (24 * n) a → k ≡ next_of t 0 → k < 65536 →
      Going t p a a n k
  unfolding chain
  going_start {a} {n} {k} ok e room at_first small =
      let fine = (refusal_none t (length p)).0 ok in
      let all : follow n t k ≡ chain t = rw (e, at_first) (follow_length (records t) t (next_of t 0)) in record {
        small = small;
        room = room;
        same = refl;
        full = rw all (sym e);
        within = λ m h. let w = chain_within t fine.0 m (rw all at h) in (w.1, omega arith);
        rest = λ w x. rw all at x;
      }

  module _ {first now : Writer} {n k : ℕ} (g : Going t p first now n k) where
    ahead : 0 < n → follow n t k ≡ k ∷ follow (n - 1) t (next_of t k)
    ahead h = follow_cons n t k h g.full

    -- While nodes are left, k is one of them.
    pub going_here : 0 < n → (k < records t) × (2 * k + 1 < length p)
    going_here h = g.within k (rw (ahead h) ((member_cons k k (follow (n - 1) t (next_of t k))).1 (inl refl)))

    pub going_next : {m : Writer} {k' : ℕ} → 0 < n → Put (node_line t p k) now m → m.at ≤ now.at + 24 → k' ≡ next_of t k → k' < 65536 →
        Going t p first m (n - 1) k'
    unfolding node_lines
    going_next {m} {k'} h x le at_next small = record {
      small = small;
      room = omega (arith, g.room, put_length x);
      same = put_length x ∙ g.same;
      full = rw at_next (omega (arith, g.full, ap length (ahead h)));
      within = λ a b. g.within a (rw (ahead h) ((member_cons a k (follow (n - 1) t (next_of t k))).1 (inr (rw at_next at b))));
      rest = λ w y. g.rest w (rw (ahead h) (put_then x (rw at_next at y)));
    }

    pub going_end : n ≤ 0 → Put (node_lines t p (chain t)) first now
    unfolding node_lines follow
    going_end h = let z : n ≡ 0 = omega arith in g.rest now (rw z (put_nothing now))
