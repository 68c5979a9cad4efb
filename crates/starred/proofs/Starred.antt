-- The starred sheets: `starred`, that the definitions give the results of every case, by one test that is computed over the table of cases.
use mathlib.Core.Path.{◌≡◌, refl, ap₂, subst}
use mathlib.Core.Bool.{Bool, true, false, ◌&&◌}
use mathlib.Core.List.{List, [], ◌∷◌}
use Prim.Native.Nat.{ℕ}
use lib.Dec.{T, eqb, eqb→eq}
use mir.Facts.{and_yes}
use Rattle.table.specs.Lists.{any, member, repeats, count, select}
use Rattle.table.specs.Table.{word, follow, chain, free}
use Rattle.table.specs.Tree.{size, nodes, descend}
use Rattle.table.specs.Trees.{links, starts_tree, nodes_of}
use Rattle.table.specs.Refusal.{bad_length, bad_head, beyond, broken, occupied, bad_free, stray, bad_links, is_empty, bad_tree}
use Rattle.table.specs.Refusal.{short_placements, fault, refusal}
use Rattle.layout.specs.Layout.{width, height, shift, flip, mirror}
use Rattle.layout.specs.Spine.{spine, opposite, seen, run_role, role_after, hand_after, roles_after, roles}
use Rattle.layout.specs.Drawing.{hang, widest, join, place, steps, drawing, draw}
use Rattle.layout.specs.Trees.{draw_from, width_of, height_of}
use Rattle.drawing.specs.Answer.{Drawn}
use Rattle.drawing.specs.Answer.{store, store_all, plan_of, drawn_of, placed_in}
use Rattle.segment.specs.Segment.{cross}
use Rattle.segment.specs.inner.Test.{overlap, spans, astride}
use Rattle.segment.proofs.SharedPoint.{meets}
use Rattle.segment.proofs.Clashing.{same as samePlace}
use Rattle.segment.proofs.Crossing.{crosses}
use Rattle.segment.proofs.FourKinds.{along, clashes}
use Rattle.verdict.specs.Verdict.{Verdict}
use Rattle.verdict.proofs.Decide.{present, some_line, same_point, child_above, two_lines, some_point, clashing, in_order, out_of_order, verdict_of, decided}
use Rattle.width.specs.Allowed.{greatest, floor_log2, allowed_width}
use Rattle.starred.specs.Cases.{Case, draws, checks, allows, accepted, Right, All, cases}

-- Equal lists, by a test.
same : List ℕ → List ℕ → Bool
same [] [] = true
same [] (y ∷ ys) = false
same (x ∷ xs) [] = false
same (x ∷ xs) (y ∷ ys) = eqb x y && same xs ys

same→eq : (xs ys : List ℕ) → T (same xs ys) → xs ≡ ys
unfolding same
same→eq [] [] t = refl
same→eq [] (y ∷ ys) t = absurd t
same→eq (x ∷ xs) [] t = absurd t
same→eq (x ∷ xs) (y ∷ ys) t = let h = and_yes (eqb x y) (same xs ys) t in ap₂ (λ (z : ℕ) (zs : List ℕ). z ∷ zs) (eqb→eq x y h.0) (same→eq xs ys h.1)

-- An answer with its four numbers in a list.
listed : Drawn → List ℕ
listed d = d.refusal ∷ d.plan.nodes ∷ d.plan.width ∷ d.plan.height ∷ []

listed→eq : (d : Drawn) (n w h : ℕ) → listed d ≡ 0 ∷ n ∷ w ∷ h ∷ [] → d ≡ accepted n w h
unfolding listed
listed→eq d n w h e =
    let refusal : d.refusal ≡ 0 = cc in
    let nodes : d.plan.nodes ≡ n = cc in
    let width : d.plan.width ≡ w = cc in
    let height : d.plan.height ≡ h = cc in
    λ i. record { refusal = refusal i; plan = record { nodes = nodes i; width = width i; height = height i } }

test : Case → Bool
test (draws t p n w h q) = same (listed (drawn_of t p)) (0 ∷ n ∷ w ∷ h ∷ []) && same (placed_in t p) q
test (checks t p v) = eqb (verdict_of t p) v
test (allows n w) = eqb (allowed_width n) w

right : (c : Case) → T (test c) → Right c
unfolding test
right (draws t p n w h q) ok = let z = and_yes (same (listed (drawn_of t p)) (0 ∷ n ∷ w ∷ h ∷ [])) (same (placed_in t p) q) ok in
    (listed→eq _ _ _ _ (same→eq _ _ z.0), same→eq _ _ z.1)
right (checks t p v) ok = subst (Verdict t p) (eqb→eq _ _ ok) (decided t p)
right (allows n w) ok = eqb→eq _ _ ok

-- Every case of a list.
tests : List Case → Bool
tests [] = true
tests (c ∷ cs) = test c && tests cs

every : (cs : List Case) → T (tests cs) → All Right cs
unfolding tests
every [] ok = tt
every (c ∷ cs) ok = let z = and_yes (test c) (tests cs) ok in (right c z.0, every cs z.1)

pub starred : All Right cases
unfolding any member repeats count select word follow chain free size nodes descend bad_length bad_head beyond broken occupied bad_free stray bad_links
    is_empty links starts_tree nodes_of bad_tree short_placements fault refusal width height shift flip mirror spine opposite seen run_role role_after
    hand_after roles_after roles hang widest join place steps drawing draw draw_from width_of height_of store store_all plan_of drawn_of placed_in cross
    overlap spans astride meets samePlace crosses along clashes present some_line same_point child_above two_lines some_point clashing in_order
    out_of_order verdict_of greatest floor_log2 allowed_width same listed test tests
starred = every cases tt
