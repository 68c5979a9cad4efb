-- `clear`: what `Abreast` says is so from before the first line to after the last. Rests on Steps.
use Rattle.neighbours.proofs.Steps.{abreast_none, abreast_over}
use Rattle.sort.specs.inner.Order.{Ascending}
use Rattle.line.specs.inner.Line.{first, last, Onward}
use Rattle.neighbours.specs.inner.Abreast.{EndsBy, Abreast, Downto}
use lib.ListN.{length, get_or}
use mathlib.Core.Path.{◌≡◌, refl, ap, sym, ◌∙◌, subst, subst₂}
use mathlib.Core.List.{List}
use Prim.Native.Nat.{ℕ, ◌+◌, ◌-◌, ◌≤◌, ◌<◌}
use native.Mathlib.Omega.{arith}
use Rattle.neighbours.proofs.clear.Invariants.{Reached}
use Rattle.neighbours.proofs.clear.Goals as goal

reached-none : {i : ℕ} (lines abreast : List ℕ) → i ≡ length lines → Reached i 0 0 lines abreast
reached-none {i} lines abreast e = record {
  level = last (get_or lines (i - 1) 0);
  soon-by = omega arith;
  ends_by = record { by = λ z. omega arith };
  so = subst (λ (n : ℕ). Abreast (length lines) n (last (get_or lines (i - 1) 0)) 0 lines abreast) (sym e) (abreast_none _ _ _ _);
}

-- The line before i comes in; lines go out.
reached-in : {i m m' soon : ℕ} {lines a b : List ℕ} → Onward (length lines) lines → Ascending last (length lines) lines → 0 < i → i ≤ length lines →
    Reached i m soon lines a → Downto (length lines) (i - 1 + 1) (i - 1) (last (get_or lines (i - 1) 0)) m m' lines a b →
    Reached (i - 1) m' (first (get_or lines (i - 1) 0)) lines b
reached-in {i} {m} {lines = lines} {a} o u h k r d = record {
  level = last (get_or lines (i - 1) 0);
  soon-by = o.onward (i - 1) (omega arith);
  ends_by = record { by = λ z. u.rises (i - 1 - 1) (i - 1) (omega arith) (omega arith) };
  so = d.down r.level (r.ends_by.by h) (subst (λ (n : ℕ). Abreast (length lines) n r.level m lines a) (omega arith) r.so);
}

reached-out : {i m m' soon level : ℕ} {lines a b : List ℕ} → ((t : ℕ) → soon ≤ t → EndsBy i t lines → level ≤ t) → EndsBy i level lines →
    Reached i m soon lines a → Downto (length lines) i i level m m' lines a b → Reached i m' 0 lines b
reached-out {level = level} least e r d = record {
  level = level;
  soon-by = omega arith;
  ends_by = e;
  so = d.down r.level (least r.level r.soon-by r.ends_by) r.so;
}

pub loop-i-init : goal.loop-i-init
loop-i-init c =
    let f = c.new-front.ensures in
    (omega (arith, f.count), f.lines, ap length f.places, rw (f.count, f.places) (reached-none _ _ refl))

pub loop-i-preserved-then-ends_at : goal.loop-i-preserved-then-ends_at
loop-i-preserved-then-ends_at c =
    let l = c.loop-i in
    let f = c.ends_at.ensures c.if-ends_at.true in
    let d = c.come_in.ensures in (
      omega (arith, f.0, c.starting-to.ensures.1.onward, d.count),
      d.lines.0 ∙ l.invariant.1,
      d.lines.1 ∙ l.invariant.2,
      rw c.first-soon.ensures (reached-in c.requires.onward c.requires.ascending f.0 (omega arith) l.invariant.3
          (rw l.invariant.1 at (d.reached c.if-not-come_in.false))),
    )

pub loop-i-preserved : goal.loop-i-preserved
loop-i-preserved c =
    let l = c.loop-i in
    let v = c.next_level-level.ensures in
    let d = c.go_out.ensures in
    let r = rw l.invariant.1 at (d.reached c.if-not-go_out.false l.i c.next_level-level.result (rw l.invariant.1 (omega arith)) c.starting-to.ensures.1) in (
      omega (arith, c.starting-to.ensures.1.onward, d.count),
      d.lines.0 ∙ l.invariant.1,
      d.lines.1 ∙ l.invariant.2,
      reached-out v.least v.reached l.invariant.3 r,
    )

pub returns : goal.returns
returns c = λ z.
    let l = c.loop-i in
    let r = l.invariant.3 in
    abreast_over c.requires.onward
    (subst₂ (λ (i m : ℕ). Abreast (length c.args.lines.now) i r.level m c.args.lines.now l.front.places.now) (omega arith) (omega arith) r.so)
