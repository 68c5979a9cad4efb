-- The survey along a spine that measures it: what holds at each node, how one node is passed, and what the end gives. Rests on Choices, Frames and the
-- width law.
use mathlib.Core.Bool.{Bool, true, false, cond, ◌||◌}
use mathlib.Core.Path.{◌≡◌, refl, sym, ap, subst, ◌∙◌}
use mathlib.Core.Logic.{inl, inr}
use mathlib.Core.List.{List, [], ◌∷◌, map}
use Prim.Native.Nat.{ℕ, ◌+◌, ◌≤◌, ◌<◌, max}
use native.Mathlib.Omega.{arith}
use lib.Dec.{T}
use lib.ListN.{get_or, length, set}
use lib.Seq.{get_or-set_same, get_or-set_other}
use Rattle.table.specs.Lists.{member, count}
use Rattle.table.specs.Table.{Side, left, right, chain}
use Rattle.table.specs.Tree.{Tree, none, node, size, nodes, tree_at}
use Rattle.table.specs.Refusal.{fault}
use Rattle.table.proofs.Lists.{same, same_one, length_within}
use Rattle.table.proofs.Chain.{length_nodes}
use Rattle.table.proofs.Accepted.{records_bounds, chain_length, size_below, tree_unfolds, tree_none}
use Rattle.layout.specs.Spine.{SpineNode, hangs, spine, Role, knee, ordinary, switch, opposite, facing, seen, role_after, hand_after}
use Rattle.layout.specs.Spine.{assigned, roles_after, roles}
use Rattle.layout.specs.Drawing.{Part, hang, widest, draw}
use Rattle.layout.specs.inner.Held.{width_on, spine_on, role_next, widest_on}
use Rattle.layout.specs.inner.Width.{edge, turn}
use Rattle.layout.proofs.Spines.{parts}
use Rattle.layout.proofs.Sides.{parts_on, first_on, width_none}
use Rattle.layout.proofs.Width.{reaches, turns, width_law, widest_less, width_small}
use Rattle.roles.specs.declared.role.Role.{Role as CodeRole}
use Rattle.roles.specs.declared.survey.Survey.{Survey}
use Rattle.roles.specs.inner.Sized.{Named}
use Rattle.roles.specs.inner.Forked.{Forked}
use Rattle.roles.specs.inner.Roles.{hand_of, role_of}
use Rattle.roles.specs.Chosen.{code_of, with_roles}
use Rattle.roles.specs.inner.Prepared.{Prepared, no_spine, a_spine, Along, ended}
use Rattle.roles.specs.inner.Measured.{SameOutside, Measured, Longer}
use Rattle.roles.proofs.Forks.{named_within}
use Rattle.roles.proofs.Choices.{code_same, code_small}
use Rattle.roles.proofs.Frames.{count_on, count_hung, along_on, count_spine, hung_below, nodes_named, once, prepared_frame, along_frame}
use Rattle.roles.proofs.Frames.{keeps_seen, KeepsAfter, keeps_frame, with_kept, with_keeps, with_whole, AlongAfter, along_node}

-- The three counts of the parts ps of a spine.
record Counts (ps : List Part) (g e : ℕ) (b : Bool) : Type 0 where
  greatest : widest ps ≡ g
  farthest : reaches ps ≡ e
  switched : turns ps ≡ b

-- One node more.
counts_node : (a : Side) (o : Role) (k : ℕ) (h : Side) (S : Tree) (ps : List Part) →
    Counts (hang draw (assigned o (seen a (hangs k h S))) ∷ ps) (max (width_on a S) (widest ps)) (max (edge o + width_on a S) (reaches ps)) (turn o (turns ps))
unfolding widest reaches turns hang seen width_on facing
counts_node left o k h S ps = record { greatest = refl; farthest = refl; switched = refl }
counts_node right o k h S ps = record { greatest = refl; farthest = refl; switched = refl }

-- No node left.
counts_end : (a : Side) (o : Role) {ls : List SpineNode} → ls ≡ [] → Counts (parts draw a o ls) 0 0 false
unfolding roles_after widest reaches turns
counts_end a o e = rw e (record { greatest = refl; farthest = refl; switched = refl })

turn_or : (o : Role) (b c : Bool) → turn o b || c ≡ b || turn o c
turn_or knee b c = refl
turn_or ordinary b c = refl
turn_or switch true c = refl
turn_or switch false c = refl

or_none : (b : Bool) → b || false ≡ b
or_none true = refl
or_none false = refl

-- At the record k of a survey from `root` with the counts g, e and b, which comes from a node of role o on the hand a: the lists were R₀ and W₀, and are R
-- and W.
pub record Surveying (t : List ℕ) (s : Side) (root : ℕ) (R₀ W₀ R W : List ℕ) (k g e : ℕ) (b : Bool) (a : Side) (o : Role) : Type 0 where
  pub named : Named t k
  pub keeps : KeepsAfter R a o (spine_on s (tree_at t k))
  -- what is prepared from here on, with nothing else changed, is prepared from the root on
  pub finish : (R' W' : List ℕ) → SameOutside (tree_at t k) R R' → SameOutside (tree_at t k) W W' → AlongAfter R' W' a o (spine_on s (tree_at t k)) →
      AlongAfter R' W' (opposite s) switch (spine_on s (tree_at t root))
  pub inside : (x : ℕ) → count x (nodes (tree_at t k)) ≤ count x (nodes (tree_at t root))
  pub kept_roles : SameOutside (tree_at t root) R₀ R
  pub kept_widest : SameOutside (tree_at t root) W₀ W
  pub widest : max g (widest (parts draw a o (spine_on s (tree_at t k)))) ≡ widest_on s (tree_at t root)
  pub reach : max e (reaches (parts draw a o (spine_on s (tree_at t k)))) ≡ reaches (parts_on s (tree_at t root))
  pub turned : b || turns (parts draw a o (spine_on s (tree_at t k))) ≡ turns (parts_on s (tree_at t root))

-- The first node is a knee of the drawing's side, as after a switch of the other hand.
first_along : {R W : List ℕ} (s : Side) (ls : List SpineNode) → AlongAfter R W (opposite s) switch ls → Along R W s knee ls
unfolding role_next hand_after role_after opposite
first_along s [] l = ended
first_along left (n ∷ ls) l = l
first_along right (n ∷ ls) l = l

-- A drawing of a subtree of a table is narrow.
pub size_small : (t : List ℕ) → fault t ≡ 0 → (k : ℕ) → Named t k → size (tree_at t k) ≤ 4096
size_small t ok k (inl e) = rw (e, tree_none t) (unfold size in omega arith)
size_small t ok k (inr h) = omega (arith, size_below t ok k h, chain_length t ok, records_bounds t ok)

module _ (t : List ℕ) (ok : fault t ≡ 0) (s : Side) (root : ℕ) where
  pub start : Named t root → (R W : List ℕ) → length R ≡ 4097 → (R₀ : List ℕ) → R₀ ≡ with_roles s (roles (spine (facing s (tree_at t root)))) R →
      Surveying t s root R₀ W R₀ W root 0 0 false (opposite s) switch
  unfolding widest_on
  start n R W z R₀ e = record {
    named = n;
    keeps = subst (λ (X : List ℕ). KeepsAfter X (opposite s) switch ls) (sym (e ∙ with_whole s S R))
        (with_keeps (opposite s) switch ls R (λ x. omega (arith, once t ok root n x, count_spine s x S)) (λ x i. within x i));
    finish = λ R' W' kr kg l. l;
    inside = λ x. omega arith;
    kept_roles = λ x i. refl;
    kept_widest = λ x i. refl;
    widest = omega (arith, ap widest first);
    reach = omega (arith, ap reaches first);
    turned = ap turns first;
  }
    where
      S : Tree
      S = tree_at t root

      ls : List SpineNode
      ls = spine_on s S

      first : parts draw (opposite s) switch ls ≡ parts_on s S
      first = ap (map (hang draw)) (first_on s ls)

      within : (x : ℕ) → 1 ≤ count_on x ls → x < length R
      within x i = omega (arith, named_within t ok x (nodes_named t ok root n x (omega (arith, count_spine s x S))))

  module _ {R₀ W₀ R W : List ℕ} {k g e : ℕ} {b : Bool} {a : Side} {o : Role} (v : Surveying t s root R₀ W₀ R W k g e b a o) where
    module _ {k' hung : ℕ} {h : Side} (d : Forked t s k k' hung h) where
      abbrev hand : Side
      hand = hand_after o a

      abbrev role : Role
      role = role_after o (seen hand (hangs k h (tree_at t hung)))

      pub kept_here : (get_or R k 0 ≡ code_of hand role) × KeepsAfter R hand role (spine_on s (tree_at t k'))
      unfolding roles_after
      kept_here = (keeps_seen R hand role k h (tree_at t hung) (roles_after hand role (spine_on s (tree_at t k')))).0
          (subst (KeepsAfter R a o) d.forks v.keeps)

      counted : (x : ℕ) → count x (nodes (tree_at t k)) ≡ same x k + (count x (nodes (tree_at t hung)) + count x (nodes (tree_at t k')))
      unfolding count_on
      counted x = count_spine s x (tree_at t k) ∙ ap (count_on x) d.forks ∙ omega (arith, count_spine s x (tree_at t k'))

      single : (x : ℕ) → same x k + (count x (nodes (tree_at t hung)) + count x (nodes (tree_at t k'))) ≤ 1
      single x = omega (arith, counted x, once t ok k v.named x)

      abbrev ls : List SpineNode
      ls = spine_on s (tree_at t k')

      counts : Counts (parts draw a o (spine_on s (tree_at t k))) (max (width_on hand (tree_at t hung)) (widest (parts draw hand role ls)))
          (max (edge role + width_on hand (tree_at t hung)) (reaches (parts draw hand role ls))) (turn role (turns (parts draw hand role ls)))
      unfolding roles_after
      counts = rw d.forks (counts_node hand role k h (tree_at t hung) (parts draw hand role ls))

      pub pass : (R' W' : List ℕ) (w : ℕ) → Measured t hand hung R W R' W' w →
          Surveying t s root R₀ W₀ R' W' k' (max g w) (max e (edge role + w)) (turn role b) hand role
      pass R' W' w m = record {
        named = d.named_spine;
        keeps = keeps_frame R R' hand role ls kept_here.1
            (λ x (i : 1 ≤ count_on x ls). m.kept_roles x (omega (arith, single x, count_spine s x (tree_at t k'))));
        finish = λ R'' W'' kr kg l. v.finish R'' W''
            (λ x i. kr x (omega (arith, counted x)) ∙ m.kept_roles x (omega (arith, counted x)))
            (λ x i. kg x (omega (arith, counted x)) ∙ m.kept_widest x (omega (arith, counted x)))
            (subst (AlongAfter R'' W'' a o) (sym d.forks) (along_node a o k h (tree_at t hung) ls (here R'' kr) (hangs_on R'' W'' kr kg) l));
        inside = λ x. omega (arith, counted x, v.inside x);
        kept_roles = λ x i. m.kept_roles x (omega (arith, counted x, v.inside x)) ∙ v.kept_roles x i;
        kept_widest = λ x i. m.kept_widest x (omega (arith, counted x, v.inside x)) ∙ v.kept_widest x i;
        widest = omega (arith, counts.greatest, m.wide, v.widest);
        reach = omega (arith, counts.farthest, m.wide, v.reach);
        turned = turn_or role b (turns (parts draw hand role ls)) ∙ ap (λ (c : Bool). b || c) (sym counts.switched) ∙ v.turned;
      }
        where
          here : (R'' : List ℕ) → SameOutside (tree_at t k') R' R'' → get_or R'' k 0 ≡ code_of hand role
          here R'' kr = kr k (omega (arith, single k, same_one k k refl)) ∙ m.kept_roles k (omega (arith, single k, same_one k k refl)) ∙ kept_here.0

          hangs_on : (R'' W'' : List ℕ) → SameOutside (tree_at t k') R' R'' → SameOutside (tree_at t k') W' W'' → Prepared R'' W'' hand (tree_at t hung)
          hangs_on R'' W'' kr kg =
              prepared_frame R'' W'' m.prepared
              (λ x (i : 1 ≤ count x (nodes (tree_at t hung))). kr x (omega (arith, single x)))
              (λ x (i : 1 ≤ count x (nodes (tree_at t hung))). kg x (omega (arith, single x)))

    pub size_inside : size (tree_at t k) ≤ size (tree_at t root)
    size_inside = omega (
      arith,
      length_within (nodes (tree_at t k)) (nodes (tree_at t root)) v.inside,
      length_nodes (tree_at t k),
      length_nodes (tree_at t root),
    )

    -- The end of the survey.
    module _ (c : T (member root (chain t))) where
      abbrev S : Tree
      S = tree_at t root

      pub widest_small : g ≤ 37
      widest_small = omega (arith, v.widest, widest_less s S, width_small s S (size_small t ok root (inr c)))

      none_left : k ≡ 0 → spine_on s (tree_at t k) ≡ []
      unfolding spine_on
      none_left z = rw (z, tree_none t) refl

      pub widest_whole : k ≡ 0 → g ≡ widest_on s S
      widest_whole z = omega (arith, (counts_end a o (none_left z)).greatest, v.widest)

      pub wide_whole : k ≡ 0 → cond b (g + 3) e ≡ width_on s S
      wide_whole z = let c = counts_end a o (none_left z) in
          let far : e ≡ reaches (parts_on s S) = omega (arith, c.farthest, v.reach) in
          let turned : b ≡ turns (parts_on s S) = sym (or_none b) ∙ ap (λ (d : Bool). b || d) (sym c.switched) ∙ v.turned in
          cc (width_law s S, widest_whole z)

      pub along_whole : k ≡ 0 → Along R W s knee (spine_on s S)
      along_whole z = first_along s (spine_on s S) (v.finish R W (λ x i. refl) (λ x i. refl) (subst (AlongAfter R W a o) (sym (none_left z)) ended))

      -- W goes to the root's entry, and nothing that is prepared stands there.
      root_counted : (x : ℕ) → x ≡ root → 1 + count_hung x (spine_on s S) ≤ count x (nodes S)
      root_counted x d = rw (d, tree_unfolds t ok root c) (hung_below s root _ _)

      pub measured : (R₁ : List ℕ) → R₀ ≡ with_roles s (roles (spine (facing s S))) R₁ → length W ≡ 4097 → k ≡ 0 → (w : ℕ) → w ≡ cond b (g + 3) e →
          Measured t s root R₁ W₀ R (set W root g) w
      measured R₁ i l z w j = record {
        wide = j ∙ wide_whole z;
        prepared = top (tree_unfolds t ok root c);
        kept_roles = λ x n. v.kept_roles x n ∙ ap (λ (X : List ℕ). get_or X x 0) (i ∙ with_whole s S R₁)
            ∙ with_kept (opposite s) switch (spine_on s S) R₁ x (omega (arith, n, count_spine s x S, along_on x (spine_on s S)));
        kept_widest = λ x n. get_or-set_other W root x g 0 (λ d. omega (arith, root_counted x d)) ∙ v.kept_widest x n;
      }
        where
          along : Along R (set W root g) s knee (spine_on s S)
          along = along_frame R (set W root g) (along_whole z) (λ x q. refl)
              (λ x (q : 1 ≤ count_hung x (spine_on s S)). get_or-set_other W root x g 0 (λ d. omega (arith, root_counted x d, once t ok root (inr c) x)))

          top : {A B : Tree} → S ≡ node root A B → Prepared R (set W root g) s S
          top d =
              subst (Prepared R (set W root g) s) (sym d)
              (a_spine (get_or-set_same W root g 0 (omega (arith, named_within t ok root (inr c))) ∙ widest_whole z ∙ ap (widest_on s) d)
              (subst (λ (U : Tree). Along R (set W root g) s knee (spine_on s U)) d along))

-- The same at a survey as the program has it.
pub record Measuring (t : List ℕ) (s : Side) (root : ℕ) (R₀ W₀ R W : List ℕ) (v : Survey) : Type 0 where
  pub long_roles : length R ≡ 4097
  pub long_widest : length W ≡ 4097
  pub hand : Side
  pub role : Role
  pub surveying : Surveying t s root R₀ W₀ R W v.at v.widest v.reach v.turned hand role

moved : {t : List ℕ} {s a : Side} {o : Role} {root k k' g g' e e' : ℕ} {b b' : Bool} {R₀ W₀ R W : List ℕ} → k' ≡ k → g' ≡ g → e' ≡ e → b' ≡ b →
    Surveying t s root R₀ W₀ R W k g e b a o → Surveying t s root R₀ W₀ R W k' g' e' b' a o
moved p q r u w = rw (p, q, r, u) w

-- No subtree.
pub measured_none : (t : List ℕ) (s : Side) (k : ℕ) (R W : List ℕ) → k ≡ 0 → Measured t s k R W R W 0
measured_none t s k R W e = record {
  wide = sym (ap (width_on s) none_there ∙ width_none s);
  prepared = subst (Prepared R W s) (sym none_there) no_spine;
  kept_roles = λ x i. refl;
  kept_widest = λ x i. refl;
}
  where
    none_there : tree_at t k ≡ none
    none_there = rw e (tree_none t)

-- A drawing that is measured is narrow.
pub measured_small : (t : List ℕ) → fault t ≡ 0 → {s : Side} {k w : ℕ} {R W R' W' : List ℕ} → Named t k → Measured t s k R W R' W' w → w ≤ 37
measured_small t ok {s} {k} n m = omega (arith, m.wide, width_small s (tree_at t k) (size_small t ok k n))

module _ (t : List ℕ) (ok : fault t ≡ 0) (s : Side) (root : ℕ) {R₀ W₀ R W : List ℕ} {v : Survey} (c : Measuring t s root R₀ W₀ R W v)
    {next hung : ℕ} {h : Side} (d : Forked t s v.at next hung h) where
  pub role_small : get_or R v.at 0 < 6
  role_small = omega (arith, (kept_here t ok s root c.surveying d).0, code_small (hand t ok s root c.surveying d) (role t ok s root c.surveying d))

  pub step : (r : CodeRole) → get_or R v.at 0 ≡ code_of (hand_of r) (role_of r) → (u : Side) → u ≡ hand_of r →
      (R' W' : List ℕ) (w : ℕ) → length R' ≡ 4097 → length W' ≡ 4097 → Measured t u hung R W R' W' w →
      (v' : Survey) → Longer v r w next v' → Measuring t s root R₀ W₀ R' W' v'
  step r e u i R' W' w lr lg m v' l = record {
    long_roles = lr;
    long_widest = lg;
    hand = _;
    role = _;
    surveying = moved l.at l.widest
        (l.reach ∙ ap (λ (o : Role). max v.reach (edge o + w)) same.1) (l.turned ∙ ap (λ (o : Role). turn o v.turned) same.1)
        (pass t ok s root c.surveying d R' W' w (subst (λ (a : Side). Measured t a hung R W R' W' w) (i ∙ same.0) m));
  }
    where
      same : (hand_of r ≡ hand t ok s root c.surveying d) × (role_of r ≡ role t ok s root c.surveying d)
      same = code_same _ _ _ _ (sym e ∙ (kept_here t ok s root c.surveying d).0)
