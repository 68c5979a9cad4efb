-- Where nothing but the points differs, what was asked holds still.
use mathlib.Core.Path.{◌≡◌, sym, ◌∙◌}
use Prim.Native.Nat.{ℕ}
use mathlib.Core.List.{List}
use Rattle.table.specs.Table.{Side}
use Rattle.layout.specs.Spine.{Role}
use Rattle.drawing.specs.declared.place.Walk.{Walk}
use Rattle.drawing.specs.declared.spines.Spines.{Spines}
use Rattle.drawing.specs.inner.Placing.{Kept, Going, Drawable, Stepped, SubtreeDrawn}

moved : (P : List ℕ → List ℕ → List ℕ → Type 0) {t R W t' R' W' : List ℕ} → t' ≡ t → R' ≡ R → W' ≡ W → P t R W → P t' R' W'
moved P p q r x = rw (p, q, r) x

pub kept_on : {a b c : Spines} → Kept b c → Kept a b → Kept a c
kept_on m k = record {
  table = m.table ∙ k.table;
  roles = m.roles ∙ k.roles;
  widest = m.widest ∙ k.widest;
  same = m.same ∙ k.same;
  long = m.long ∙ k.long;
}

module _ {a b : Spines} (k : Kept a b) where
  pub going_kept : {o : Role} {w : Walk} → Going a.subtrees.table.now a.roles.now a.widest.now o w → Going b.subtrees.table.now b.roles.now b.widest.now o w
  going_kept {o} {w} = moved (λ t R W. Going t R W o w) k.table k.roles k.widest

  pub drawable_kept : {s : Side} {n e c top : ℕ} → Drawable a.subtrees.table.now a.roles.now a.widest.now s n e c top →
      Drawable b.subtrees.table.now b.roles.now b.widest.now s n e c top
  drawable_kept {s} {n} {e} {c} {top} = moved (λ t R W. Drawable t R W s n e c top) k.table k.roles k.widest

  pub stepped_back : {o : Role} {w w' : Walk} {p p' : List ℕ} → Stepped b.subtrees.table.now b.roles.now b.widest.now o w p w' p' →
      Stepped a.subtrees.table.now a.roles.now a.widest.now o w p w' p'
  stepped_back {o} {w} {w'} {p} {p'} = moved (λ t R W. Stepped t R W o w p w' p') (sym k.table) (sym k.roles) (sym k.widest)

  pub drawn_back : {s : Side} {n e top below : ℕ} {p p' : List ℕ} → SubtreeDrawn b.subtrees.table.now s n e top p below p' →
      SubtreeDrawn a.subtrees.table.now s n e top p below p'
  drawn_back {s} {n} {e} {top} {below} {p} {p'} = moved (λ t R W. SubtreeDrawn t s n e top p below p') (sym k.table) (sym k.roles) (sym k.widest)
