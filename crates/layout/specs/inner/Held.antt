-- The drawing as a program makes it, for the contracts of the drawer's inner functions: no tree is mirrored and no drawing flipped. Nothing here need be
-- believed: it is proved equal to the drawing. A subtree is drawn on a side, held by its edge e on that side with its top at row t; the spine goes by the
-- tree as it stands, hand and edge change at a switch, columns are counted from the hand's edge inwards.
use Rattle.std.specs.Prelude.{Bool, true, false, List, [], ◌∷◌, map, ◌≡◌, ℕ, suc, ◌+◌, ◌-◌, ◌≤◌, max, leb}
use Rattle.segment.specs.Segment.{at}
use Rattle.table.specs.Table.{Side, left, right}
use Rattle.table.specs.Tree.{Tree, none, node, size}
use Rattle.layout.specs.Layout.{Layout, blank, placed, width, height}
use Rattle.layout.specs.Spine.{SpineNode, hangs, Role, knee, ordinary, switch, opposite, facing, seen, role_after, Assigned, assigned, roles_after}
use Rattle.layout.specs.Drawing.{hang, widest, join, Rest, draw}

-- k columns inwards from the edge e of a side.
unfoldable pub inwards : Side → ℕ → ℕ → ℕ
inwards left e k = e + k
inwards right e k = e - k

-- A layout held by its edge e on a side, with its top at row t; on the right it is flipped.
unfoldable pub put : Side → ℕ → ℕ → Layout → Layout
put s e t blank = blank
put left e t (placed k P a b) = placed k (at (e + P.column) (t + P.row)) (put left e t a) (put left e t b)
put right e t (placed k P a b) = placed k (at (e - P.column) (t + P.row)) (put right e t b) (put right e t a)

-- The subtree S as it is hung on a side; how high and how wide its drawing is.
unfoldable pub hung_on : Side → ℕ → ℕ → Tree → Layout
hung_on s e t S = put s e t (draw (facing s S))

unfoldable pub height_on : Side → Tree → ℕ
height_on s S = height (draw (facing s S))

unfoldable pub width_on : Side → Tree → ℕ
width_on s S = width (draw (facing s S))

-- The spine in the tree as it stands; of two equal subtrees it takes the one on the side.
unfoldable pub spine_on : Side → Tree → List SpineNode
spine_on s none = []
spine_on left (node k a b) = elim (leb (size b) (size a)) [ true ↦ hangs k right b ∷ spine_on left a | false ↦ hangs k left a ∷ spine_on left b ]
spine_on right (node k a b) = elim (leb (size a) (size b)) [ true ↦ hangs k left a ∷ spine_on right b | false ↦ hangs k right b ∷ spine_on right a ]

-- The role of the next spine node, which is on the hand a, after a node of role o.
unfoldable pub role_next : Side → Role → List SpineNode → Role
role_next a o [] = o
role_next a o (l ∷ ls) = role_after o (seen a l)

-- A child on the side s is on the far side of the hand a.
unfoldable pub far : Side → Side → Bool
far left left = false
far left right = true
far right left = true
far right right = false

-- Steps 4 to 8 from a spine node of the hand a and the role o on. The hand's edge is e, the other hand's f.
unfoldable pub lay : (a : Side) (e f : ℕ) → Role → (H r p : ℕ) → List SpineNode → Rest
lay a e f o H r p [] = record { drawn = blank; under = H + 1 }
lay a e f knee H r p (hangs k s S ∷ ls) =
    elim (far a s) [
      | true ↦
          let n : Rest = lay a e f (role_next a knee ls) (max H r + height_on a S) (max H r + height_on a S + 1) 0 ls in
          record { drawn = join k (at e r) s (hung_on a (inwards a e 1) (max H r + 1) S) n.drawn; under = n.under }
      | false ↦
          let n : Rest = lay a e f (role_next a knee ls) (max H r) (max H r + 1) (height_on a S) ls in
          record { drawn = join k (at e r) s (hung_on a (inwards a e 1) n.under S) n.drawn; under = n.under }
    ]
lay a e f ordinary H r p (hangs k s S ∷ ls) =
    let n : Rest = lay a e f (role_next a ordinary ls) (r + height_on a S) (r + max 1 (height_on a S)) p ls in
    record { drawn = join k (at (inwards a e 1) r) s (hung_on a (inwards a e 2) (r + 1) S) n.drawn; under = n.under }
lay a e f switch H r p (hangs k s S ∷ ls) =
    let n : Rest = lay (opposite a) f e (role_next (opposite a) switch ls) (r + height_on a S + p) (r + 1) 0 ls in
    record { drawn = join k (at (inwards a e 1) r) s (hung_on a (inwards a e 1) (r + 1) S) n.drawn; under = r + height_on a S + 1 }

-- The roles from a spine node of the hand a and the role o on. On the side s a spine begins with a knee of that side; W is the greatest width of what hangs
-- from it.
unfoldable pub roles_from : Side → Role → List SpineNode → List Assigned
roles_from a o [] = []
roles_from a o (l ∷ ls) = assigned o (seen a l) ∷ roles_after a o ls

unfoldable pub widest_on : Side → Tree → ℕ
widest_on s S = widest (map (hang draw) (roles_from s knee (spine_on s S)))

-- f is the other hand's edge, w columns inwards; on the right it need be so only if there are so many columns.
abbrev pub Frame : Side → (e f w : ℕ) → Type 0
Frame left e f w = f ≡ e + w
Frame right e f w = w ≤ e → e ≡ f + w

-- On the right a drawing has to fit: there is no column left of 0.
abbrev pub Fit : Side → ℕ → Layout → Type 0
Fit left e L = Unit {0}
Fit right e L = width L ≤ suc e

-- f is the other hand's edge, w columns inwards.
abbrev pub Exact : Side → (e f w : ℕ) → Type 0
Exact left e f w = f ≡ e + w
Exact right e f w = e ≡ f + w

-- The first row below what is drawn from a spine node on, what is pending too, as a program counts it.
unfoldable pub bottom : (a : Side) → Role → (H r p : ℕ) → List SpineNode → ℕ
bottom a o H r p [] = H + p + 1
bottom a knee H r p (hangs k s S ∷ ls) = elim (far a s) [
  | true ↦ bottom a (role_next a knee ls) (max H r + height_on a S) (max H r + height_on a S + 1) 0 ls
  | false ↦ bottom a (role_next a knee ls) (max H r) (max H r + 1) (height_on a S) ls
]
bottom a ordinary H r p (hangs k s S ∷ ls) = bottom a (role_next a ordinary ls) (r + height_on a S) (r + max 1 (height_on a S)) p ls
bottom a switch H r p (hangs k s S ∷ ls) = bottom (opposite a) (role_next (opposite a) switch ls) (r + height_on a S + p) (r + 1) 0 ls

-- The w columns from the edge e of a side inwards are among the columns 0 to B − 1.
abbrev pub Inside : (B : ℕ) → Side → (e w : ℕ) → Type 0
Inside B left e w = e + w ≤ B
Inside B right e w = (w ≤ suc e) × (suc e ≤ B)

-- The spine goes on.
abbrev pub GoesOn : List SpineNode → Type 0
GoesOn [] = ⊥
GoesOn (l ∷ ls) = Unit {0}

-- So are those of each spine node from here on, and of what hangs from it. At a switch the whole frame is, the other hand's edge f is W + 2 columns
-- inwards, and a node of that hand follows.
pub data Rooms (B W : ℕ) : Side → (e f : ℕ) → Role → List SpineNode → Type 0 where
  no_rooms : {a : Side} {e f : ℕ} {o : Role} → Rooms B W a e f o []
  knee_room : {a s : Side} {e f k : ℕ} {S : Tree} {ls : List SpineNode} → Inside B a e (1 + width_on a S) → Rooms B W a e f (role_next a knee ls) ls →
      Rooms B W a e f knee (hangs k s S ∷ ls)
  ordinary_room : {a s : Side} {e f k : ℕ} {S : Tree} {ls : List SpineNode} → Inside B a e (2 + width_on a S) → Rooms B W a e f (role_next a ordinary ls) ls →
      Rooms B W a e f ordinary (hangs k s S ∷ ls)
  switch_room : {a s : Side} {e f k : ℕ} {S : Tree} {ls : List SpineNode} → GoesOn ls → width_on a S ≤ W → Inside B a e (W + 3) → Exact a e f (W + 2) →
      Rooms B W (opposite a) f e (role_next (opposite a) switch ls) ls → Rooms B W a e f switch (hangs k s S ∷ ls)
