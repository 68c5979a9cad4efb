-- The drawer's answer on acceptance and on refusal: `accepted`, `refused`, `drawn_refusal`.
use mathlib.Core.Path.{◌≡◌, sym, ap, ◌∙◌}
use mathlib.Core.Logic.{◌≢◌}
use mathlib.Core.List.{List}
use Prim.Native.Nat.{ℕ}
use native.Mathlib.Decide.{ℕ_discrete}
use lib.ListN.{length}
use borrow.Author.Tests.{eq-eqb, ne_eqb}
use Rattle.table.specs.Trees.{trees}
use Rattle.table.specs.Refusal.{refusal}
use Rattle.table.proofs.Saying.{lent_made, lent_kept}
use Rattle.layout.specs.Trees.{draw_trees}
use Rattle.drawing.specs.Answer.{Drawn}
use Rattle.drawing.specs.Answer.{store_all, empty_plan, plan_of, drawn_of, placed_in}

pub record Accepted (t p : List ℕ) : Type 0 where
  pub drawn : drawn_of t p ≡ record { refusal = 0; plan = plan_of t }
  pub after : placed_in t p ≡ store_all (draw_trees (trees t)) p

pub accepted : (t p : List ℕ) → refusal t (length p) ≡ 0 → Accepted t p
unfolding drawn_of placed_in
accepted t p e = record { drawn = rw (drawn_of, eq-eqb (refusal t (length p)) 0 e); after = sym (lent_made (refusal t (length p)) _ p e) }

pub record Refused (t p : List ℕ) : Type 0 where
  pub drawn : drawn_of t p ≡ record { refusal = refusal t (length p); plan = empty_plan }
  pub after : placed_in t p ≡ p

pub refused : (t p : List ℕ) → refusal t (length p) ≢ 0 → Refused t p
unfolding drawn_of placed_in
refused t p e = record { drawn = rw (drawn_of, ne_eqb (refusal t (length p)) 0 e); after = sym (lent_kept (refusal t (length p)) _ p e) }

pub drawn_refusal : (t p : List ℕ) → (drawn_of t p).refusal ≡ refusal t (length p)
drawn_refusal t p = go (ℕ_discrete (refusal t (length p)) 0)
  where
    go : Dec (refusal t (length p) ≡ 0) → (drawn_of t p).refusal ≡ refusal t (length p)
    go (yes e) = ap (λ (d : Drawn). d.refusal) (accepted t p e).drawn ∙ sym e
    go (no e) = ap (λ (d : Drawn). d.refusal) (refused t p e).drawn
