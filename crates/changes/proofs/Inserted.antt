-- A list with one number more, right behind another (`Behind`, specs/Leaf), and a path with one record more. Rests on Lists and Trail.
use mathlib.Core.Path.{◌≡◌, refl, sym, ap, ◌∙◌}
use mathlib.Core.Logic.{◌↔◌, ◌⊎◌, inl, inr, ⊎_elim}
use mathlib.Core.Bool.{Bool, false}
use mathlib.Core.List.{List, [], ◌∷◌, ◌++◌}
use Prim.Native.Nat.{ℕ, suc, ◌+◌, ◌≤◌, ◌<◌}
use native.Mathlib.Omega.{arith}
use lib.Dec.{T}
use lib.ListN.{length, drop}
use Rattle.table.specs.Lists.{member, repeats, count, select}
use Rattle.table.specs.Table.{next_of}
use Rattle.table.proofs.Lists.{T_false, or_false, member_cons, sum, same, same_one, Alike, alike, count_sum, length_sum, sum_append, select_append}
use Rattle.table.proofs.Lists.{member_count, Distinct}
use Rattle.table.proofs.Trail.{Path, path_same}
use Rattle.changes.specs.Leaf.{Behind}

-- A sum has the number's weight more: so have counts and lengths, and the members are the number and the others.
module _ (k f h : ℕ) (ks fs : List ℕ) (b : Behind k f (h ∷ ks) (h ∷ fs)) where
  pub behind_sum : (g : ℕ → ℕ) → sum g fs ≡ g f + sum g ks
  unfolding sum
  behind_sum g = omega (
    arith,
    ap (sum g) b.without,
    ap (sum g) b.inserted,
    sum_append g b.before (k ∷ b.after),
    sum_append g b.before (k ∷ f ∷ b.after),
  )

  pub behind_count : (x : ℕ) → count x fs ≡ same x f + count x ks
  behind_count x = omega (arith, behind_sum (same x), count_sum x fs, count_sum x ks)

  pub behind_length : length fs ≡ suc (length ks)
  behind_length = omega (arith, behind_sum (λ x. 1), length_sum fs, length_sum ks)

  pub behind_member : (x : ℕ) → T (member x fs) ↔ ((x ≡ f) ⊎ T (member x ks))
  behind_member x = (
    λ m. there (alike x f) ((member_count x fs).0 m),
    ⊎_elim new (λ (m : T (member x ks)). (member_count x fs).1 (omega (arith, behind_count x, (member_count x ks).0 m))),
  )
    where
      there : Alike x f → 1 ≤ count x fs → (x ≡ f) ⊎ T (member x ks)
      there (inl e) m = inl e.0
      there (inr e) m = inr ((member_count x ks).1 (omega (arith, behind_count x)))

      new : x ≡ f → T (member x fs)
      new e = (member_count x fs).1 (omega (arith, behind_count x, same_one x f e))

  -- What passes a test that the number fails.
  pub behind_select : (g : ℕ → Bool) → g f ≡ false → select g fs ≡ select g ks
  unfolding select
  behind_select g e = go b.before (ap (drop 1) b.without) (ap (drop 1) b.inserted)
    where
      skip : select g (f ∷ b.after) ≡ select g b.after
      skip = rw (e, select)

      go : (before : List ℕ) → ks ≡ drop 1 (before ++ (k ∷ b.after)) → fs ≡ drop 1 (before ++ (k ∷ f ∷ b.after)) → select g fs ≡ select g ks
      go [] p q = rw (p, q) skip
      go (x ∷ xs) p q =
          let over : select g (k ∷ f ∷ b.after) ≡ select g (k ∷ b.after) =
          select_append g (k ∷ []) (f ∷ b.after) ∙ ap (λ (l : List ℕ). select g (k ∷ []) ++ l) skip ∙ sym (select_append g (k ∷ []) b.after) in
          ap (select g) q ∙ select_append g xs (k ∷ f ∷ b.after) ∙ ap (λ (l : List ℕ). select g xs ++ l) over ∙
          sym (ap (select g) p ∙ select_append g xs (k ∷ b.after))

-- A path gets one record more, f, right behind c: the nexts are the same but for those of c and f.
module _ (t u : List ℕ) (c f : ℕ) (some : 0 < f) (follows : next_of u c ≡ f) (gap : next_of t c ≡ next_of u f) where
  abbrev Longer : ℕ → List ℕ → Type 0
  Longer h ks = (fs : List ℕ) × Behind c f (h ∷ ks) (h ∷ fs) × Path u (next_of u h) fs

  abbrev Agreeing : ℕ → List ℕ → Type 0
  Agreeing h ks = (x : ℕ) → T (member x (h ∷ ks)) → (x ≡ c → ⊥) → next_of u x ≡ next_of t x

  -- At its start.
  inserted_here : (h : ℕ) (ks : List ℕ) → Agreeing h ks → Distinct (h ∷ ks) → Path t (next_of t h) ks → h ≡ c → Longer h ks
  unfolding repeats
  inserted_here h ks e d p q = (
    f ∷ ks,
    record { before = []; after = ks; without = rw q refl; inserted = rw q refl },
    (rw q follows, some, path_same t u (next_of u f) ks same (rw (q, gap) at p)),
  )
    where
      same : (x : ℕ) → T (member x ks) → next_of u x ≡ next_of t x
      same x m = e x ((member_cons x h ks).1 (inr m)) (λ r. (T_false (member h ks)).1 ((or_false (member h ks) (repeats ks)).0 d).0 (rw (r ∙ sym q) at m))

  pub path_inserted : (h : ℕ) (ks : List ℕ) → Agreeing h ks → Distinct (h ∷ ks) → T (member c (h ∷ ks)) → Path t (next_of t h) ks → Longer h ks
  unfolding repeats
  path_inserted h [] e d m p = inserted_here h [] e d p
      (⊎_elim (λ (q : c ≡ h). sym q) (λ (q : T (member c [])). absurd (unfold member in q)) ((member_cons c h []).0 m))
  path_inserted h (k ∷ ks) e d m p =
      go (alike h c) (path_inserted k ks (λ x i. e x ((member_cons x h (k ∷ ks)).1 (inr i))) ((or_false (member h (k ∷ ks)) (repeats (k ∷ ks))).0 d).1)
    where
      go : Alike h c → (T (member c (k ∷ ks)) → Path t (next_of t k) ks → Longer k ks) → Longer h (k ∷ ks)
      go (inl q) r = inserted_here h (k ∷ ks) e d p q.0
      go (inr q) r =
          let l = r (⊎_elim (λ (i : c ≡ h). absurd (q.0 (sym i))) (λ (i : T (member c (k ∷ ks))). i) ((member_cons c h (k ∷ ks)).0 m)) p.2 in (
            k ∷ l.0,
            record {
              before = h ∷ l.1.before;
              after = l.1.after;
              without = ap (λ (x : List ℕ). h ∷ x) l.1.without;
              inserted = ap (λ (x : List ℕ). h ∷ x) l.1.inserted;
            },
            (e h ((member_cons h h (k ∷ ks)).1 (inl refl)) q.0 ∙ p.0, p.1, l.2),
          )
