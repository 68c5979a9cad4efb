-- The lines of a table as a list: what holds of every line holds of each in the list (`line_by`), every line stands there (`line_listed`) and,
-- in an accepted table, once (`line_once`); there are as many as there are nodes other than roots (`lines_number`). Rests on the laws of an accepted table.
use mathlib.Core.Path.{◌≡◌, refl, sym, ap, ◌∙◌, subst}
use mathlib.Core.Logic.{◌≢◌, inl, inr, ⊎_elim}
use mathlib.Core.List.{List, [], ◌∷◌, ◌++◌}
use Prim.Native.Nat.{ℕ, zero, suc, ◌+◌, ◌<◌}
use native.Mathlib.Omega.{arith}
use lib.Dec.{T}
use lib.ListN.{length, get_or}
use Rattle.std.specs.Prelude.{Option, None, Some}
use Rattle.table.specs.Lists.{member}
use Rattle.table.specs.Table.{Side, left, right, records, left_of, right_of, link_of, root_of, chain, Chained, Line}
use Rattle.table.specs.Trees.{links, roots}
use Rattle.table.specs.Refusal.{fault}
use Rattle.records.specs.inner.Steps.{present}
use Rattle.table.proofs.Lists.{member_cons}
use Rattle.table.proofs.Accepted.{chain_within, link_within}
use Rattle.records.proofs.Scan.{places_differ}
use Rattle.records.proofs.Children.{children, children_distinct, children_length}
use Rattle.pen.specs.declared.lines.Ends.{Ends}
use Rattle.pen.specs.Lines.{line_to, lines_from, lines, line_at}

abbrev pub ends : ℕ → ℕ → Ends
ends k c = record { parent = k; child = c }

none_some : {l : Ends} → ◌≡◌ {A = Option Ends} None (Some l) → ⊥
none_some e = cc

-- What holds of every line from the given records to a child holds of every line of the list.
module _ (P : Ends → Type 0) where
  ahead : (k c : ℕ) (rest : List Ends) → (c ≢ 0 → P (ends k c)) → ((i : ℕ) (l : Ends) → line_at rest i ≡ Some l → P l) → (i : ℕ) (l : Ends) →
      line_at (line_to k c ++ rest) i ≡ Some l → P l
  unfolding line_to
  ahead k zero rest f g i l e = g i l e
  ahead k (suc c) rest f g zero l e = let same : ends k (suc c) ≡ l = cc in subst P same (f (λ z. omega arith))
  ahead k (suc c) rest f g (suc i) l e = g i l e

  each : (t ks : List ℕ) → ((k : ℕ) (s : Side) → T (member k ks) → link_of t s k ≢ 0 → P (ends k (link_of t s k))) → (i : ℕ) (l : Ends) →
      line_at (lines_from t ks) i ≡ Some l → P l
  unfolding lines_from
  each t [] f i l e = absurd (none_some e)
  each t (k ∷ ks) f i l e =
      let m = (member_cons k k ks).1 (inl refl) in
      ahead k (left_of t k) _ (f k left m) (ahead k (right_of t k) _ (f k right m) (each t ks (λ n s h. f n s ((member_cons n k ks).1 (inr h))))) i l e

  pub line_by : (t : List ℕ) → ((k : ℕ) (s : Side) → Chained t k → link_of t s k ≢ 0 → P (ends k (link_of t s k))) → (i : ℕ) (l : Ends) →
      line_at (lines t) i ≡ Some l → P l
  line_by t = each t (chain t)

-- Every line is in the list.
abbrev Stands : Ends → List Ends → Type 0
Stands l ls = (i : ℕ) × (i < length ls) × (line_at ls i ≡ Some l)

behind : (l : Ends) (k c : ℕ) (rest : List Ends) → Stands l rest → Stands l (line_to k c ++ rest)
unfolding line_to
behind l k zero rest p = p
behind l k (suc c) rest p = (suc p.0, omega (arith, p.1), p.2)

before : (k c : ℕ) (rest : List Ends) → c ≢ 0 → Stands (ends k c) (line_to k c ++ rest)
unfolding line_to
before k zero rest h = absurd (h refl)
before k (suc c) rest h = (0, omega arith, refl)

stands : (t ks : List ℕ) (k : ℕ) (s : Side) → T (member k ks) → link_of t s k ≢ 0 → Stands (ends k (link_of t s k)) (lines_from t ks)
unfolding lines_from
stands t [] k s m h = absurd (unfold member in m)
stands t (n ∷ ns) k s m h =
    ⊎_elim (λ (e : k ≡ n). rw (sym e) (own s h)) (λ (m : T (member k ns)). behind (ends k (link_of t s k)) n (left_of t n) _
    (behind (ends k (link_of t s k)) n (right_of t n) _ (stands t ns k s m h))) ((member_cons k n ns).0 m)
  where
    own : (s : Side) → link_of t s k ≢ 0 → Stands (ends k (link_of t s k)) (line_to k (left_of t k) ++ (line_to k (right_of t k) ++ lines_from t ns))
    own left h = before k (left_of t k) _ h
    own right h = behind (ends k (right_of t k)) k (left_of t k) _ (before k (right_of t k) _ h)

pub line_listed : {t : List ℕ} {k c : ℕ} {s : Side} → Line t k s c → (i : ℕ) × (i < length (lines t)) × (line_at (lines t) i ≡ Some (ends k c))
line_listed {t} {k} {c} {s} l = rw (sym l.links) (stands t (chain t) k s l.chained (λ e. l.child (sym l.links ∙ e)))

-- The children of the lines are the children of the nodes.
abbrev ended : List Ends → List ℕ
ended [] = []
ended (l ∷ ls) = l.child ∷ ended ls

ended_length : (ls : List Ends) → length (ended ls) ≡ length ls
ended_length [] = refl
ended_length (l ∷ ls) = ap suc (ended_length ls)

ended_at : (ls : List Ends) (i : ℕ) (l : Ends) → line_at ls i ≡ Some l → (i < length ls) × (get_or (ended ls) i 0 ≡ l.child)
ended_at [] i m e = absurd (none_some e)
ended_at (l ∷ ls) zero m e = let same : l ≡ m = cc in (omega arith, ap (λ (x : Ends). x.child) same)
ended_at (l ∷ ls) (suc i) m e = let rest = ended_at ls i m e in (omega arith, rest.1)

ended_children : (t ks : List ℕ) → ended (lines_from t ks) ≡ present (links t ks)
unfolding line_to lines_from links present
ended_children t [] = refl
ended_children t (k ∷ ks) = one (left_of t k) (line_to k (right_of t k) ++ lines_from t ks) (right_of t k ∷ links t ks)
    (one (right_of t k) (lines_from t ks) (links t ks) (ended_children t ks))
  where
    one : (c : ℕ) (ls : List Ends) (ns : List ℕ) → ended ls ≡ present ns → ended (line_to k c ++ ls) ≡ present (c ∷ ns)
    one zero ls ns e = e
    one (suc c) ls ns e = ap (λ (l : List ℕ). suc c ∷ l) e

module _ (t : List ℕ) (ok : fault t ≡ 0) where
  pub line_once : (i j : ℕ) (l m : Ends) → i < j → line_at (lines t) i ≡ Some l → line_at (lines t) j ≡ Some m → l.child ≢ m.child
  line_once i j l m h a b e =
      let same = ended_children t (chain t) in
      let at_i = ended_at (lines t) i l a in
      let at_j = ended_at (lines t) j m b in
      places_differ (children t) i j (children_distinct t ok) h (omega (arith, at_j.0, ended_length (lines t), ap length same))
      (ap (λ (l : List ℕ). get_or l i 0) (sym same) ∙ at_i.1 ∙ e ∙ sym at_j.1 ∙ ap (λ (l : List ℕ). get_or l j 0) same)

  -- A line to each node but the roots.
  pub lines_number : Chained t (root_of t) → length (roots t) + length (lines t) ≡ length (chain t)
  lines_number r = omega (arith, children_length t ok r, ended_length (lines t), ap length (ended_children t (chain t)))

  -- The ends of a line are records.
  pub line_within : (i : ℕ) (l : Ends) → line_at (lines t) i ≡ Some l → (l.parent < records t) × (l.child < records t)
  line_within = line_by (λ l. (l.parent < records t) × (l.child < records t)) t (λ k s m n. ((chain_within t ok k m).1, link_within t ok k s m))
