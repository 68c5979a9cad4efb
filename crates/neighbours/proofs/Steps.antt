-- The sweep: what is known of the lines abreast stays so as lines go out and one comes in, and at the end no two lines clash. Rests on Chain.
use mathlib.Core.Path.{◌≡◌, refl, ap, sym, ◌∙◌, subst, subst₂}
use mathlib.Core.Logic.{◌⊎◌, ◌≢◌, inl, inr, ⊎_elim}
use mathlib.Core.List.{List}
use Prim.Native.Nat.{ℕ, zero, suc, ◌+◌, ◌*◌, ◌-◌, ◌≤◌, ◌<◌}
use native.Mathlib.Nat.{mul-le-mul_left}
use native.Mathlib.Numerals.{add-one}
use native.Mathlib.Decide.{dec_lt, ℕ_discrete}
use native.Mathlib.Omega.{arith}
use lib.ListN.{length, get_or}
use Rattle.segment.specs.declared.Point.{Point}
use Rattle.segment.specs.Segment.{Is}
use Rattle.segment.specs.inner.Test.{number}
use Rattle.segment.proofs.Weights.{Weights, weights}
use Rattle.segment.proofs.Clashing.{clash_exchange}
use Rattle.segment.proofs.Separate.{numbers_apart}
use Rattle.sort.specs.inner.Order.{Below}
use Rattle.line.specs.inner.Line.{start_of, end_of, first, last, Onward}
use Rattle.line.proofs.Numbers.{number_first, number_last, start_fits, end_fits}
use Rattle.neighbours.specs.inner.Side.{Ends, Next}
use Rattle.neighbours.specs.inner.Abreast.{Clashes, NoClash, Places, at, Starting, Clear, Abreast, Downto, Replaced}
use Rattle.neighbours.proofs.Levels.{Ordered, right_ordered, left_ordered}
use Rattle.neighbours.proofs.Chain.{Spot, spot, Under, under_next, under_more, under_on}

-- ---- lines as numbers, and their levels

up : (k : ℕ) → first k ≤ last k → number 65536 (start_of k) ≤ number 65536 (end_of k)
up k h = omega (arith, number_first k, number_last k)

ordered : (x y : ℕ) → first x ≤ last x → first y ≤ last y → Next x y → Ordered 65536 (start_of x) (end_of x) (start_of y) (end_of y)
ordered x y h k (inl o) = right_ordered 65536 (start_fits x) (end_fits x) (up x h) o
ordered x y h k (inr o) = left_ordered 65536 (start_fits y) (end_fits y) (up y k) o

mean : (u v q n m t : ℕ) → u + v ≡ q → t ≡ u * n + v * m → n ≤ m → (q * n ≤ t) × (t ≤ q * m)
mean u v q n m t e f h = (omega (arith, ap (λ (i : ℕ). i * n) e, mul-le-mul_left v h), omega (arith, ap (λ (i : ℕ). i * m) e, mul-le-mul_left u h))

on_levels : (k : ℕ) {q x y : ℕ} → first k ≤ last k → Weights (start_of k) (end_of k) q x y → (q * first k ≤ 65536 * y + x) × (65536 * y + x ≤ q * last k)
on_levels k {q} {x} {y} h a = mean a.u a.v q (first k) (last k) (65536 * y + x) a.sum
    (numbered ∙ ap (λ (n : ℕ). a.u * n + a.v * number 65536 (end_of k)) (number_first k) ∙ ap (λ (n : ℕ). a.u * first k + a.v * n) (number_last k)) h
  where
    numbered : 65536 * y + x ≡ a.u * number 65536 (start_of k) + a.v * number 65536 (end_of k)
    numbered = omega (arith, ap (λ (n : ℕ). 65536 * n) a.in_row, a.in_column)

less : (q n m : ℕ) → q * n < q * m → n < m
less q n m h = go (dec_lt n m)
  where
    go : Dec (n < m) → n < m
    go (yes l) = l
    go (no l) = let g : q * m ≤ q * n = mul-le-mul_left q (omega arith) in absurd (omega arith)

-- The line k has the level t / q.
pub record Spans (k q t : ℕ) : Type 0 where
  pub onward : first k ≤ last k
  pub low : q * first k ≤ t
  pub high : t ≤ q * last k

spot_of : (k : ℕ) {q x y : ℕ} → 1 ≤ q → Spans k q (65536 * y + x) → Spot 65536 (start_of k) (end_of k) q x y
spot_of k {q} {x} {y} one s = spot 65536 (start_of k) (end_of k) one (up k s.onward)
    (subst (λ (n : ℕ). q * n ≤ 65536 * y + x) (sym (number_first k)) s.low) (subst (λ (n : ℕ). 65536 * y + x ≤ q * n) (sym (number_last k)) s.high)

-- A point that the lines X and Y share, and not as an end of both.
pub record Meets (X Y q x y : ℕ) : Type 0 where
  pub one : 1 ≤ q
  pub on_X : Weights (start_of X) (end_of X) q x y
  pub on_Y : Weights (start_of Y) (end_of Y) q x y
  pub apart : (E : Point) → Ends E (start_of X) (end_of X) → Ends E (start_of Y) (end_of Y) → Is E q x y → ⊥

meets_of : {X Y : ℕ} (c : Clashes X Y) → Meets X Y c.share.q c.share.x c.share.y
meets_of c = record { one = c.share.q≥1; on_X = weights c.share.on_PQ; on_Y = weights c.share.on_RS; apart = c.no_common_end }

meets_back : {X Y q x y : ℕ} → Meets X Y q x y → Meets Y X q x y
meets_back c = record { one = c.one; on_X = c.on_Y; on_Y = c.on_X; apart = λ E a b. c.apart E b a }

-- ---- lines each beside the next, on a level that all have

module _ (f : ℕ → ℕ) (m q x y : ℕ) (one : 1 ≤ q) (spans : (s : ℕ) → s < m → Spans (f s) q (65536 * y + x)) (next : (s : ℕ) → s + 1 < m →
    Next (f s) (f (s + 1))) where
  beside : (s : ℕ) → s + 1 < m → Ordered 65536 (start_of (f s)) (end_of (f s)) (start_of (f (s + 1))) (end_of (f (s + 1)))
  beside s h = ordered (f s) (f (s + 1)) (spans s (omega arith)).onward (spans (s + 1) h).onward (next s h)

  abbrev Above : ℕ → ℕ → Type 0
  Above p r = Under 65536 (start_of (f p)) (end_of (f p)) q x y (start_of (f r)) (end_of (f r))

  chain : (p r : ℕ) → p < r → r < m → Weights (start_of (f p)) (end_of (f p)) q x y → Above p r
  chain p zero h k a = absurd (omega arith)
  chain p (suc r) h k a = go (ℕ_discrete p r) (λ l. chain p r l (omega arith) a)
    where
      go : Dec (p ≡ r) → (p < r → Above p r) → Above p (suc r)
      go (yes e) c = subst (λ (n : ℕ). Above p n) (omega arith) (under_next one a (beside p (omega arith)))
      go (no e) c = subst (λ (n : ℕ). Above p n) (add-one r)
          (under_more (omega arith) one (c (omega arith)) (spot_of (f r) one (spans r (omega arith))) (beside r (omega arith)))

  split : (p r : ℕ) → p < m → r < m → p ≢ r → Meets (f p) (f r) q x y → ⊥
  split p r h k n c = go (dec_lt p r)
    where
      one_way : (p r : ℕ) → p < r → r < m → Meets (f p) (f r) q x y → ⊥
      one_way p r l k c = let t = under_on one (chain p r l k c.on_X) c.on_Y in c.apart t.E t.first t.second t.is

      go : Dec (p < r) → ⊥
      go (yes l) = one_way p r l k c
      go (no l) = one_way r p (omega arith) h (meets_back c)

-- ---- lines abreast

-- Of lines, from right to left, that all came in at t or above and start at t' or below, two share nothing from t' up to t.
apart : {n t m : ℕ} {l : List ℕ} (a : List ℕ) → Onward n l → ((p : ℕ) → p < m → get_or a p 0 < n) → ((p : ℕ) → p < m → t ≤ last (at l a p)) →
    ((p : ℕ) → p + 1 < m → Next (at l a (p + 1)) (at l a p)) →
    (t' : ℕ) → ((p : ℕ) → p < m → first (at l a p) ≤ t') → {j k q x y : ℕ} → Below m (λ p. get_or a p 0 ≡ j) → Below m (λ p. get_or a p 0 ≡ k) → j ≢ k →
    q * t' ≤ 65536 * y + x → 65536 * y + x ≤ q * t → Meets (get_or l j 0) (get_or l k 0) q x y → ⊥
apart {n} {t} {m} {l} a o below come next t' start {j} {k} {q} {x} {y} (p, u, e) (r, w, f) d low high c =
    split (λ s. at l a (m - 1 - s)) m q x y c.one (λ s v. spans (m - 1 - s) (omega arith)) beside_back (m - 1 - p) (m - 1 - r) (omega arith) (omega arith)
    (λ z. d (sym e ∙ ap (λ (s : ℕ). get_or a s 0) (omega arith) ∙ f))
    (subst₂ (λ (v z : ℕ). Meets (get_or l v 0) (get_or l z 0) q x y) (sym (back p u ∙ e)) (sym (back r w ∙ f)) c)
  where
    spans : (s : ℕ) → s < m → Spans (at l a s) q (65536 * y + x)
    spans s v = record {
      onward = o.onward (get_or a s 0) (below s v);
      low = omega (arith, mul-le-mul_left q (start s v));
      high = omega (arith, mul-le-mul_left q (come s v));
    }

    back : (s : ℕ) → s < m → get_or a (m - 1 - (m - 1 - s)) 0 ≡ get_or a s 0
    back s v = ap (λ (z : ℕ). get_or a z 0) (omega arith)

    beside_back : (s : ℕ) → s + 1 < m → Next (at l a (m - 1 - s)) (at l a (m - 1 - (s + 1)))
    beside_back s v = subst₂ (λ (u v : ℕ). Next (at l a u) (at l a v)) (omega arith) (omega arith) (next (m - 1 - (s + 1)) (omega arith))

-- Down to a level above which none of them starts.
advance : {n i t m : ℕ} {l a : List ℕ} → Onward n l → Abreast n i t m l a → (t' : ℕ) → t' ≤ t → ((p : ℕ) → p < m → first (at l a p) ≤ t') →
    (j k : ℕ) → i ≤ j → j < k → k < n → Clear t' (get_or l j 0) (get_or l k 0)
advance {n} {i} {t} {m} {l} {a} o h t' d start j k g b v = record { clear = λ c. go c (dec_lt (65536 * c.share.y + c.share.x) (c.share.q * t')) }
  where
    go : (c : Clashes (get_or l j 0) (get_or l k 0)) → Dec (65536 * c.share.y + c.share.x < c.share.q * t') →
        65536 * c.share.y + c.share.x < c.share.q * t'
    go c (yes z) = z
    go c (no z) =
        let old = (h.clear (λ p u. omega (arith, start p u)) j k g b v).clear c in
        let w = meets_of c in
        absurd (apart a o h.below h.come h.next t' start
        (h.all j g (omega arith) (less c.share.q (first (get_or l j 0)) t (omega (arith, on_levels (get_or l j 0) (o.onward j (omega arith)) w.on_X))))
        (h.all k (omega arith) v (less c.share.q (first (get_or l k 0)) t (omega (arith, on_levels (get_or l k 0) (o.onward k v) w.on_Y))))
        (λ e. omega arith) (omega arith) (omega arith) w)

-- ---- lines go out, and one comes in or none

-- What b has at s.
pub replaced_all : {i m m' d p e : ℕ} {a b : List ℕ} → d ≤ 1 → (e ≤ m) × (m' + e ≡ m + p + d) → p ≤ e → Replaced d m p e i a b →
    (A : ℕ → Type 0) → ((s : ℕ) → s < m → A (get_or a s 0)) → (0 < d → A i) → (s : ℕ) → s < m' → A (get_or b s 0)
replaced_all {i} {m} {m'} {d} {p} {e} {a} {b} one count onward changed A old new s k = go (dec_lt s p) (dec_lt s (p + d))
  where
    go : Dec (s < p) → Dec (s < p + d) → A (get_or b s 0)
    go (yes u) v = subst A (sym (changed.before s u)) (old s (omega arith))
    go (no u) (yes v) = subst A (sym (ap (λ (z : ℕ). get_or b z 0) (omega arith) ∙ changed.here (omega arith))) (new (omega arith))
    go (no u) (no v) =
        let r = s - (p + d) in
        subst A (sym (ap (λ (z : ℕ). get_or b z 0) (omega arith) ∙ changed.after r (omega arith))) (old (e + r) (omega arith))

module _ {n i i' t t' m m' d p e : ℕ} {l a b : List ℕ} (o : Onward n l) (h : Abreast n i t m l a) (lines : (d ≤ 1) × (i' + d ≡ i) × (i ≤ n))
    (count : (e ≤ m) × (m' + e ≡ m + p + d))
    (out : Starting p e t' l a) (in' : 0 < d → last (get_or l i' 0) ≡ t') (changed : Replaced d m p e i' a b) where
  all_of_b : (A : ℕ → Type 0) → ((s : ℕ) → s < m → A (get_or a s 0)) → (0 < d → A i') → (s : ℕ) → s < m' → A (get_or b s 0)
  all_of_b = replaced_all lines.0 count out.onward changed

  below : (s : ℕ) → s < m' → get_or b s 0 < n
  below = all_of_b (λ j. j < n) h.below (λ z. omega arith)

  -- where b has what a had at s
  stays : (s : ℕ) → s < m → (s < p) ⊎ (e ≤ s) → Below m' (λ r. get_or b r 0 ≡ get_or a s 0)
  stays s k (inl u) = (s, omega (arith, out.onward), changed.before s u)
  stays s k (inr u) = let r = s - e in (p + d + r, omega (arith, out.onward), changed.after r (omega arith) ∙ ap (λ (z : ℕ). get_or a z 0) (omega arith))

  -- .. or its line started at the level
  stays_or : (s : ℕ) → s < m → Below m' (λ r. get_or b r 0 ≡ get_or a s 0) ⊎ (first (at l a s) ≡ t')
  stays_or s k = go (dec_lt s p) (dec_lt s e)
    where
      go : Dec (s < p) → Dec (s < e) → Below m' (λ r. get_or b r 0 ≡ get_or a s 0) ⊎ (first (at l a s) ≡ t')
      go (yes u) v = inl (stays s k (inl u))
      go (no u) (no v) = inl (stays s k (inr (omega arith)))
      go (no u) (yes v) = inr (out.start s (omega arith) v)

  replaced_next : ((s : ℕ) → s + 1 ≡ p → p < m' → Next (at l b (s + 1)) (at l b s)) → (0 < d → p + 1 < m' → Next (at l b (p + 1)) (at l b p)) →
      (s : ℕ) → s + 1 < m' → Next (at l b (s + 1)) (at l b s)
  replaced_next left right s k = go (dec_lt (s + 1) p) (ℕ_discrete (s + 1) p) (dec_lt s (p + d))
    where
      by : (u v : ℕ) → get_or b s 0 ≡ get_or a u 0 → get_or b (s + 1) 0 ≡ get_or a v 0 → v ≡ u + 1 → v < m → Next (at l b (s + 1)) (at l b s)
      by u v c z f w = subst₂ (λ (x y : ℕ). Next (get_or l x 0) (get_or l y 0)) (sym (z ∙ ap (λ (r : ℕ). get_or a r 0) f)) (sym c) (h.next u (omega arith))

      go : Dec (s + 1 < p) → Dec (s + 1 ≡ p) → Dec (s < p + d) → Next (at l b (s + 1)) (at l b s)
      go (yes u) v w = by s (s + 1) (changed.before s (omega arith)) (changed.before (s + 1) u) refl (omega (arith, out.onward))
      go (no u) (yes v) w = left s v (omega arith)
      go (no u) (no v) (yes w) = subst (λ (z : ℕ). Next (at l b (z + 1)) (at l b z)) (omega arith) (right (omega arith) (omega arith))
      go (no u) (no v) (no w) =
          let r = s - (p + d) in
          by (e + r) (e + (r + 1)) (ap (λ (z : ℕ). get_or b z 0) (omega arith) ∙ changed.after r (omega arith))
          (ap (λ (z : ℕ). get_or b z 0) (omega arith) ∙ changed.after (r + 1) (omega arith)) (omega arith) (omega arith)

  pub abreast_on : t' ≤ t → ((s : ℕ) → s + 1 ≡ p → p < m' → Next (at l b (s + 1)) (at l b s)) → (0 < d → p + 1 < m' → Next (at l b (p + 1)) (at l b p)) →
      Abreast n i' t' m' l b
  abreast_on down left right = record {
    from = all_of_b (λ j. i' ≤ j) (λ s u. omega (arith, h.from s u)) (λ z. omega arith);
    below = below;
    come = come;
    next = next;
    all = λ j u v w. all j u v w (dec_lt j i);
    clear = λ start j k u v w. clear start j k u v w (dec_lt j i);
  }
    where
      come : (s : ℕ) → s < m' → t' ≤ last (at l b s)
      come = all_of_b (λ j. t' ≤ last (get_or l j 0)) (λ s u. omega (arith, h.come s u)) (λ z. omega (arith, in' z))

      next : (s : ℕ) → s + 1 < m' → Next (at l b (s + 1)) (at l b s)
      next = replaced_next left right

      old_all : (j : ℕ) → i ≤ j → j < n → first (get_or l j 0) < t' → Below m' (λ s. get_or b s 0 ≡ j)
      old_all j u v w = let z = h.all j u v (omega arith) in go z (stays_or z.0 z.1)
        where
          go : (z : Below m (λ s. get_or a s 0 ≡ j)) → Below m' (λ r. get_or b r 0 ≡ get_or a z.0 0) ⊎ (first (at l a z.0) ≡ t') →
              Below m' (λ s. get_or b s 0 ≡ j)
          go z (inl y) = (y.0, y.1, y.2 ∙ z.2)
          go z (inr y) = absurd (omega (arith, y, ap (λ (r : ℕ). first (get_or l r 0)) z.2))

      all : (j : ℕ) → i' ≤ j → j < n → first (get_or l j 0) < t' → Dec (j < i) → Below m' (λ s. get_or b s 0 ≡ j)
      all j u v w (yes z) = (p, omega (arith, out.onward), changed.here (omega arith) ∙ omega arith)
      all j u v w (no z) = old_all j (omega arith) v w

      before : ((s : ℕ) → s < m' → first (at l b s) ≤ t') → (s : ℕ) → s < m → first (at l a s) ≤ t'
      before start s u = ⊎_elim (λ y. subst (λ (r : ℕ). first (get_or l r 0) ≤ t') y.2 (start y.0 y.1)) (λ y. omega (arith, y)) (stays_or s u)

      clear : ((s : ℕ) → s < m' → first (at l b s) ≤ t') → (j k : ℕ) → i' ≤ j → j < k → k < n → Dec (j < i) → Clear t' (get_or l j 0) (get_or l k 0)
      clear start j k u v w (no z) = advance o h t' down (before start) j k (omega arith) v w
      clear start j k u v w (yes z) =
          record { clear = λ c. go c (dec_lt (65536 * c.share.y + c.share.x) (c.share.q * t')) (dec_lt (first (get_or l k 0)) t') }
        where
          is : j ≡ i'
          is = omega arith

          ends : last (get_or l j 0) ≡ t'
          ends = ap (λ (r : ℕ). last (get_or l r 0)) is ∙ in' (omega arith)

          go : (c : Clashes (get_or l j 0) (get_or l k 0)) → Dec (65536 * c.share.y + c.share.x < c.share.q * t') → Dec (first (get_or l k 0) < t') →
              65536 * c.share.y + c.share.x < c.share.q * t'
          go c (yes y) s = y
          go c (no y) (yes s) =
              let x = meets_of c in
              absurd (apart b o below come next t' start (
                p,
                omega (arith, out.onward),
                changed.here (omega arith) ∙
                    sym is,
              ) (old_all k (omega arith) w s)
              (λ f. omega arith) (omega arith) (subst (λ (r : ℕ). 65536 * c.share.y + c.share.x ≤ c.share.q * r) ends
              (on_levels (get_or l j 0) (o.onward j (omega arith)) x.on_X).1) x)
          go c (no y) (no s) =
              absurd (numbers_apart 65536 (start_fits (get_or l k 0)) (end_fits (get_or l k 0)) (end_fits (get_or l j 0)) (up (get_or l k 0) (o.onward k w))
              (up (get_or l j 0) (o.onward j (omega arith))) (omega (arith, number_first (get_or l k 0), number_last (get_or l j 0), ends)) (clash_exchange c))

-- For the code: line i comes in, and none does.
pub in_places : {n i m p e : ℕ} {a b : List ℕ} → Places n m a → p ≤ e → e ≤ m → i < n → m < length b → Replaced 1 m p e i a b → Places n (m + p + 1 - e) b
in_places {n} w o k g r changed = record { room = omega arith; below = replaced_all (omega arith) (k, omega arith) o changed (λ j. j < n) w.below (λ z. g) }

pub abreast_in : {n i m p e : ℕ} {l a b : List ℕ} → Onward n l → Starting p e (last (get_or l i 0)) l a → e ≤ m → i < n → Replaced 1 m p e i a b →
    ((s : ℕ) → s + 1 ≡ p → p < m + p + 1 - e → Next (at l b (s + 1)) (at l b s)) →
    ((s : ℕ) → s + 1 ≡ p + 1 → p + 1 < m + p + 1 - e → Next (at l b (s + 1)) (at l b s)) → Downto n (i + 1) i (last (get_or l i 0)) m (m + p + 1 - e) l a b
abreast_in {p = p} o out k g changed left right = record {
  down = λ t down h. abreast_on o h (omega arith, refl, omega arith) (k, omega arith) out (λ z. refl) changed down left (λ z. right p refl);
}

pub abreast_out : {n i t m p e : ℕ} {l a b : List ℕ} → Onward n l → Starting p e t l a → e ≤ m → i ≤ n → Replaced 0 m p e 0 a b →
    ((s : ℕ) → s + 1 ≡ p → p < m + p - e → Next (at l b (s + 1)) (at l b s)) → Downto n i i t m (m + p - e) l a b
abreast_out {i = i} {m = m} {p} {e} {a = a} {b} o out k g changed left = record {
  down = λ s down h. abreast_on o h (omega arith, omega arith, g) (k, omega arith) out (λ z. absurd (omega arith)) none down left (λ z. absurd (omega arith));
}
  where
    none : Replaced 0 m p e i a b
    none = record { before = changed.before; here = λ z. absurd (omega arith); after = changed.after }

-- ---- before the first line, and after the last

pub abreast_none : (n t : ℕ) (l a : List ℕ) → Abreast n n t 0 l a
abreast_none n t l a = record {
  from = λ p h. absurd (omega arith);
  below = λ p h. absurd (omega arith);
  come = λ p h. absurd (omega arith);
  next = λ p h. absurd (omega arith);
  all = λ j h k g. absurd (omega arith);
  clear = λ s j k h g v. absurd (omega arith);
}

pub abreast_over : {n t : ℕ} {l a : List ℕ} → Onward n l → Abreast n 0 t 0 l a → NoClash n l
abreast_over {n} {t} {l} {a} o h = record {
  none = λ j k v w c.
      let low = (on_levels (get_or l j 0) (o.onward j (omega arith)) (weights c.share.on_PQ)).0 in
      let z = (h.clear (λ p u. absurd (omega arith)) j k (omega arith) v w).clear c in
      let y = h.all j (omega arith) (omega arith) (less c.share.q (first (get_or l j 0)) t (omega arith)) in
      omega (arith, y.1);
}
