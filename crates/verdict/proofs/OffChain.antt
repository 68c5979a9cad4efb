-- Of records on neither chain "left, right and tag change no answer": of the check, `off_chain_verdict`. Rests on that law of tables and on Clashes.
use mathlib.Core.Path.{◌≡◌, sym, ◌∙◌}
use mathlib.Core.Logic.{◌↔◌, ◌⊎◌, inl, inr, ⊎_map}
use mathlib.Core.List.{List}
use Prim.Native.Nat.{ℕ}
use lib.ListN.{length}
use Rattle.segment.specs.declared.Point.{Point}
use Rattle.table.specs.Table.{Side, Chained, Line}
use Rattle.table.specs.OffChain.{OffChain}
use Rattle.table.proofs.OffChain.{chain_same, link_same, refusal_same, off_chain_sym}
use Rattle.verdict.specs.Conditions.{SamePoint, ChildAbove, TwoLines, LinesClash, NodeOnLine, Clashing, OutOfOrder}
use Rattle.verdict.specs.Verdict.{Verdict}
use Rattle.verdict.proofs.Clashes.{two_over}

-- The conditions, of the other table.
module _ {t u : List ℕ} (h : OffChain t u) where
  still_chained : (k : ℕ) → Chained t k → Chained u k
  still_chained k c = rw (chain_same h) c

  still_line : {k c : ℕ} {s : Side} → Line t k s c → Line u k s c
  still_line {k} {c} {s} l = record { chained = still_chained k l.chained; links = link_same h k s l.chained ∙ l.links; child = l.child }

  module _ {p : List ℕ} where
    points : SamePoint t p → SamePoint u p
    points z = record {
      k = z.k;
      m = z.m;
      chained_k = still_chained z.k z.chained_k;
      chained_m = still_chained z.m z.chained_m;
      two = z.two;
      same = z.same;
    }

    rows : ChildAbove t p → ChildAbove u p
    rows z = record { k = z.k; c = z.c; s = z.s; line = still_line z.line; above = z.above }

    abbrev two_lines_lem : {R : Point → Point → Point → Point → Type 0} → TwoLines t p R → TwoLines u p R
    two_lines_lem z = two_over z (still_line z.line) (still_line z.line') z.so

    meetings : LinesClash t p → LinesClash u p
    meetings z = record { two = two_lines_lem z.two; elsewhere = z.elsewhere }

    overlaps : NodeOnLine t p → NodeOnLine u p
    overlaps z = record {
      b = z.b;
      k = z.k;
      c = z.c;
      s = z.s;
      chained = still_chained z.b z.chained;
      line = still_line z.line;
      no_end = z.no_end;
      lies = z.lies;
    }

    clashes : Clashing t p → Clashing u p
    clashes = ⊎_map meetings overlaps

    turns : OutOfOrder t p → OutOfOrder u p
    turns z = record {
      k = z.k;
      a = z.a;
      b = z.b;
      left_line = still_line z.left_line;
      right_line = still_line z.right_line;
      not_ordered = z.not_ordered;
    }

-- The first that holds is the same.
first_same : {A B R S : Type 0} {v n : ℕ} → (A → B) → (B → A) → (R → S) → (A × (v ≡ n)) ⊎ ((A → ⊥) × R) → (B × (v ≡ n)) ⊎ ((B → ⊥) × S)
first_same f g r (inl a) = inl (f a.0, a.1)
first_same f g r (inr a) = inr (λ b. a.0 (g b), r a.1)

onward : {t u p : List ℕ} {v : ℕ} → OffChain t u → Verdict t p v → Verdict u p v
onward {t} {u} {p} h (inl a) = let e = refusal_same h (length p) in inl (λ z. a.0 (sym e ∙ z), a.1 ∙ sym e)
onward {t} {u} {p} h (inr a) =
    let g = off_chain_sym h in
    inr (
      refusal_same h (length p) ∙ a.0,
      first_same (points h) (points g)
          (first_same (rows h) (rows g) (first_same (two_lines_lem h) (two_lines_lem g)
          (first_same (clashes h) (clashes g) (first_same (turns h) (turns g) (λ e. e))))) a.1,
    )

pub off_chain_verdict : (t u p : List ℕ) (v : ℕ) → OffChain t u → Verdict t p v ↔ Verdict u p v
off_chain_verdict t u p v h = (onward h, onward (off_chain_sym h))
