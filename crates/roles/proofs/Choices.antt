-- The roles that the program chooses are those of step 2, and their numbers tell them apart.
use mathlib.Core.Bool.{true, false, not}
use mathlib.Core.Path.{◌≡◌, refl, sym, ap, ◌∙◌}
use mathlib.Core.Logic.{◌⊎◌, inl, inr}
use Prim.Native.Nat.{ℕ, ◌%◌, ◌<◌}
use lib.Dec.{leb, eqb, lit<}
use Rattle.table.specs.Table.{Side, left, right}
use Rattle.table.specs.Tree.{Tree, none, node}
use Rattle.layout.specs.Layout.{mirror}
use Rattle.layout.specs.Spine.{SpineNode, hangs, Role as LayoutRole, knee, ordinary, switch, opposite, seen, run_role, role_after, hand_after}
use Rattle.roles.specs.declared.Fork.{Fork}
use Rattle.layout.specs.inner.Held.{far}
use Rattle.roles.specs.declared.role.Role.{Role}
use Rattle.roles.specs.declared.sides.Side.{Side as CodeSide}
use Rattle.roles.specs.declared.sides.Side.TheVariants.{Left, Right}
use Rattle.roles.specs.contracts.sides.Side.{the_type}
use denote.Enum.Bare.{sameb}
use Rattle.roles.specs.Chosen.{side_of, code_of}
use Rattle.roles.specs.inner.Roles.{is_switch, node_of, Runs, Follows, hand_of, role_of}

-- Step 2 in a run: a switch exactly where something hangs on the hand's own side.
run_bare : (a h : Side) (k : ℕ) (S : Tree) → S ≡ none → run_role (seen a (hangs k h S)) ≡ ordinary
unfolding run_role seen opposite mirror
run_bare left left k S e = rw e
run_bare left right k S e = refl
run_bare right left k S e = refl
run_bare right right k S e = rw e

run_far : (a : Side) (k : ℕ) (S : Tree) → run_role (seen a (hangs k (opposite a) S)) ≡ ordinary
unfolding run_role seen opposite
run_far left k S = refl
run_far right k S = refl

run_near : (a : Side) (k : ℕ) (S : Tree) → (S ≡ none → ⊥) → run_role (seen a (hangs k a S)) ≡ switch
unfolding run_role seen opposite mirror
run_near a k none n = absurd (n refl)
run_near left k (node i x y) n = refl
run_near right k (node i x y) n = refl

-- Two sides in code that differ are far from each other.
pub far_apart : (s a : CodeSide) → not (sameb the_type s a) ≡ far (side_of a) (side_of s)
unfolding far
far_apart Left Left = refl
far_apart Left Right = refl
far_apart Right Left = refl
far_apart Right Right = refl

pub far_other : (a s : Side) → far a s ≡ true → s ≡ opposite a
unfolding far opposite
far_other left left e = cc
far_other left right e = refl
far_other right left e = refl
far_other right right e = cc

pub near_same : (a s : Side) → far a s ≡ false → s ≡ a
unfolding far
near_same left left e = refl
near_same left right e = cc
near_same right left e = cc
near_same right right e = refl

pub ordinary_runs : (a : Side) (f : Fork) (r : Role) → hand_of r ≡ a → role_of r ≡ ordinary → (f.hung ≡ 0) ⊎ (side_of f.side ≡ opposite a) → Runs a f r
ordinary_runs a f r h o (inl e) = record { hand = h; role = λ k S st. o ∙ sym (run_bare a _ k S (st.0 e)) }
ordinary_runs a f r h o (inr e) = record { hand = h; role = λ k S st. o ∙ sym (rw e (run_far a k S)) }

pub switch_runs : (a : Side) (f : Fork) (r : Role) → hand_of r ≡ a → role_of r ≡ switch → (f.hung ≡ 0 → ⊥) → side_of f.side ≡ a → Runs a f r
switch_runs a f r h o n e = record { hand = h; role = λ k S st. o ∙ sym (rw e (run_near a k S (λ i. n (st.1 i)))) }

-- The same by what the program tests.
pub bare_runs : (a : Side) (f : Fork) (r : Role) → hand_of r ≡ a → role_of r ≡ ordinary → f.hung ≡ 0 → Runs a f r
bare_runs a f r h o e = ordinary_runs a f r h o (inl e)

pub far_runs : (a : Side) (f : Fork) (r : Role) → hand_of r ≡ a → role_of r ≡ ordinary → far a (side_of f.side) ≡ true → Runs a f r
far_runs a f r h o e = ordinary_runs a f r h o (inr (far_other a (side_of f.side) e))

pub near_runs : (a : Side) (f : Fork) (r : Role) → hand_of r ≡ a → role_of r ≡ switch → (f.hung ≡ 0 → ⊥) → far a (side_of f.side) ≡ false → Runs a f r
near_runs a f r h o n e = switch_runs a f r h o n (near_same a (side_of f.side) e)

pub opposite_twice : (a : Side) → opposite (opposite a) ≡ a
unfolding opposite
opposite_twice left = refl
opposite_twice right = refl

-- The role after a switch, and after any other role.
pub switch_is : (o : LayoutRole) → is_switch o ≡ true → o ≡ switch
switch_is knee e = cc
switch_is ordinary e = cc
switch_is switch e = refl

pub follows_switch : (b : Role) (f : Fork) (r : Role) → is_switch (role_of b) ≡ true →
    hand_of r ≡ opposite (hand_of b) → role_of r ≡ knee → Follows b f r
unfolding role_after hand_after
follows_switch b f r s h o =
    let i = switch_is (role_of b) s in
    record {
      hand = h ∙ sym (ap (λ (o : LayoutRole). hand_after o (hand_of b)) i);
      role = λ k S st. o ∙ sym (ap (λ (o : LayoutRole). role_after o (seen (hand_of r) (node_of f k S))) i);
    }

pub follows_run : (b : Role) (f : Fork) (r : Role) (a : Side) → is_switch (role_of b) ≡ false → a ≡ hand_of b → Runs a f r → Follows b f r
unfolding role_after hand_after
follows_run b f r a s e n = record { hand = n.hand ∙ e ∙ sym (hand (role_of b) s); role = λ k S st. rw n.hand (n.role k S st) ∙ sym (role (role_of b) s _) }
  where
    hand : (o : LayoutRole) → is_switch o ≡ false → hand_after o (hand_of b) ≡ hand_of b
    hand knee s = refl
    hand ordinary s = refl
    hand switch s = cc

    role : (o : LayoutRole) → is_switch o ≡ false → (l : SpineNode) → role_after o l ≡ run_role l
    role knee s l = refl
    role ordinary s l = refl
    role switch s l = cc

-- The numbers of the roles.
hand_from : ℕ → Side
hand_from n = elim (leb 3 n) [ true ↦ right | false ↦ left ]

role_from : ℕ → LayoutRole
role_from n = elim (eqb (n % 3) 0) [ true ↦ knee | false ↦ elim (eqb (n % 3) 1) [ true ↦ ordinary | false ↦ switch ] ]

decoded : (a : Side) (o : LayoutRole) → (hand_from (code_of a o) ≡ a) × (role_from (code_of a o) ≡ o) × (code_of a o < 6)
unfolding hand_from role_from
decoded left knee = (refl, refl, lit< tt)
decoded left ordinary = (refl, refl, lit< tt)
decoded left switch = (refl, refl, lit< tt)
decoded right knee = (refl, refl, lit< tt)
decoded right ordinary = (refl, refl, lit< tt)
decoded right switch = (refl, refl, lit< tt)

pub code_same : (a b : Side) (o p : LayoutRole) → code_of a o ≡ code_of b p → (a ≡ b) × (o ≡ p)
code_same a b o p e = let x = decoded a o in
    let y = decoded b p in
    (sym x.0 ∙ ap hand_from e ∙ y.0, sym x.1 ∙ ap role_from e ∙ y.1)

pub code_small : (a : Side) (o : LayoutRole) → code_of a o < 6
code_small a o = (decoded a o).2
