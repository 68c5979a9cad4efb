-- Of records on neither chain "left, right and tag change no answer": of a stroke, `off_chain_stroke`. Rests on that law of tables.
use mathlib.Core.Path.{◌≡◌, refl}
use mathlib.Core.List.{List}
use Prim.Native.Nat.{ℕ}
use lib.ListN.{length}
use Rattle.table.specs.Table.{Side, left, right, link_of, chain}
use Rattle.table.specs.OffChain.{OffChain}
use Rattle.table.proofs.Lists.{by_members}
use Rattle.table.proofs.OffChain.{chain_same, link_same, refusal_same}
use Rattle.pen.specs.Lines.{lines_from, lines}
use Rattle.pen.specs.Strokes.{stroke_refusal, stroke_of}

lines_same : {t u : List ℕ} → OffChain t u → lines u ≡ lines t
unfolding lines_from
lines_same {t} {u} h =
    rw (chain_same h)
    (by_members (λ k. (s : Side) → link_of u s k ≡ link_of t s k) (λ ks. lines_from u ks ≡ lines_from t ks) refl (λ n ns e more. rw (e left, e right, more))
    (chain t) (λ k m s. link_same h k s m))

pub off_chain_stroke : (t u p : List ℕ) (pitch number : ℕ) → OffChain t u → stroke_of u p pitch number ≡ stroke_of t p pitch number
unfolding stroke_of stroke_refusal
off_chain_stroke t u p pitch number h = rw (refusal_same h (length p), lines_same h)
