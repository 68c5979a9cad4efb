-- Two tables that differ by one leaf: it is the first free record of the one, and chained in the other. Hanging goes from the one to the other, cutting
-- back. Rests on none of the laws.
use mathlib.Core.Path.{◌≡◌, ap}
use mathlib.Core.Logic.{◌≢◌, ◌⊎◌, ⊎_elim}
use mathlib.Core.List.{List}
use Prim.Native.Nat.{ℕ, ◌/◌, ◌≤◌, ◌<◌}
use native.Mathlib.Omega.{arith}
use lib.ListN.{length}
use Rattle.table.specs.Table.{Side, left, right, records, word, next_of, left_of, right_of, link_of, tag_of, root_of, first_free}
use Rattle.table.specs.Trees.{named}

-- What names the leaf f in u: word j of record p, where 0 is the head with its left; or nothing, where it is the root of another tree: then its own left
-- stands for that word.
abbrev pub NamedBy : List ℕ → (p j f : ℕ) → Type 0
NamedBy u p j f = ((p ≢ f) × (word u p j ≡ f)) ⊎ ((p ≡ f) × (j ≡ 1) × (f ≢ root_of u) × (named u f ≡ 0))

-- The leaf is f. In u it follows record c on the chain, where 0 is the head, and word j of record p names it, or stands for the word that would (`NamedBy`).
pub record Graft (t u : List ℕ) (c p j f : ℕ) : Type 0 where
  pub long : length u ≡ length t
  pub some : 0 < f
  pub inside : f < records t
  pub apart_c : c ≢ f
  pub slot : (j ≡ 1) ⊎ ((j ≡ 2) × (p ≢ 0))
  -- Without the leaf.
  pub first : first_free t ≡ f
  pub gap : next_of t c ≡ next_of u f
  pub vacant : word t p j ≡ 0
  pub blank : (left_of t f ≡ 0) × (right_of t f ≡ 0) × (tag_of t f ≡ 0)
  -- With it.
  pub others : first_free u ≡ next_of t f
  pub follows : next_of u c ≡ f
  pub names : NamedBy u p j f
  pub childless : (left_of u f ≡ 0) × (right_of u f ≡ 0)
  -- The other words are the same.
  pub same : (m i : ℕ) → i < 4 → m ≢ f → ((m ≡ 0) × (i ≡ 2) → ⊥) → ((m ≡ c) × (i ≡ 0) → ⊥) → ((m ≡ p) × (i ≡ j) → ⊥) → word u m i ≡ word t m i

module _ {t u : List ℕ} {c p j f : ℕ} (g : Graft t u c p j f) where
  pub as_many : records u ≡ records t
  as_many = ap (λ (n : ℕ). n / 8) g.long

  pub slot_bounds : (1 ≤ j) × (j < 3)
  slot_bounds = ⊎_elim (λ (e : j ≡ 1). (omega arith, omega arith)) (λ (e : (j ≡ 2) × (p ≢ 0)). (omega arith, omega arith)) g.slot

  pub names_leaf : p ≢ f → word u p j ≡ f
  names_leaf n = ⊎_elim (λ (e : (p ≢ f) × (word u p j ≡ f)). e.1) (λ (e : (p ≡ f) × (j ≡ 1) × (f ≢ root_of u) × (named u f ≡ 0)). absurd (n e.0)) g.names

  pub leaf_links : (s : Side) → link_of u s f ≡ 0
  leaf_links left = g.childless.0
  leaf_links right = g.childless.1
