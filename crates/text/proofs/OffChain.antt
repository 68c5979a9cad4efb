-- Of records on neither chain "left, right and tag change no answer": of the text, `off_chain_text`. Rests on that law of tables and of the drawer.
use mathlib.Core.Path.{◌≡◌, refl, ap}
use mathlib.Core.Bool.{true, false}
use mathlib.Core.List.{List, ◌++◌}
use Prim.Native.Nat.{ℕ}
use lib.Dec.{T, eqb}
use Rattle.table.specs.Lists.{member}
use Rattle.table.specs.Table.{tag_of, chain}
use Rattle.table.specs.OffChain.{OffChain}
use Rattle.table.proofs.Lists.{by_members}
use Rattle.table.proofs.OffChain.{chain_same, tag_same}
use Rattle.drawing.specs.Answer.{Drawn}
use Rattle.drawing.specs.Answer.{drawn_of, placed_in}
use Rattle.drawing.proofs.OffChain.{off_chain_drawn}
use Rattle.text.specs.Text.{plan_line, node_line, node_lines, refused_line, text_from, lent, text_of}

lines_same : (t u p ks : List ℕ) → ((k : ℕ) → T (member k ks) → tag_of u k ≡ tag_of t k) → node_lines u p ks ≡ node_lines t p ks
unfolding node_lines node_line
lines_same t u p =
    by_members (λ k. tag_of u k ≡ tag_of t k) (λ ks. node_lines u p ks ≡ node_lines t p ks) refl (λ n ns h more. rw (h, more))

from_same : {t u : List ℕ} → OffChain t u → (d : Drawn) (p : List ℕ) → text_from u d p ≡ text_from t d p
unfolding text_from
from_same {t} {u} h d p =
    ap (λ (l : List ℕ). elim (eqb d.refusal 0) [ true ↦ plan_line d.plan ++ l | false ↦ refused_line d.refusal ])
    (rw (chain_same h) (lines_same t u p (chain t) (tag_same h)))

pub off_chain_text : (t u : List ℕ) → OffChain t u → text_of u ≡ text_of t
unfolding text_of
off_chain_text t u h = let d = off_chain_drawn t u lent h in rw (d.0, d.1) (from_same h (drawn_of t lent) (placed_in t lent))
