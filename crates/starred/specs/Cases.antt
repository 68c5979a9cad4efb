-- The starred sheets of document 01, "Sheets worked by hand", as one table over bytes and placements, and what it means that a case is right.
use Rattle.std.specs.Prelude.{◌≡◌, List, [], ◌∷◌, ℕ, ◌/◌, ◌%◌}
use Rattle.drawing.specs.Answer.{Drawn}
use Rattle.drawing.specs.Answer.{drawn_of, placed_in}
use Rattle.verdict.specs.Verdict.{Verdict}
use Rattle.width.specs.Allowed.{allowed_width}

-- A case: what the drawer answers, what the check says, what the allowed width is.
pub data Case : Type 0 where
  -- bytes, placements, then nodes, width, height and every placement afterwards
  draws : (bytes placements : List ℕ) (nodes width height : ℕ) (after : List ℕ) → Case
  -- bytes, placements, verdict
  checks : (bytes placements : List ℕ) (verdict : ℕ) → Case
  -- number of nodes, allowed width
  allows : (n w : ℕ) → Case

abbrev pub accepted : ℕ → ℕ → ℕ → Drawn
accepted n w h = record { refusal = 0; plan = record { nodes = n; width = w; height = h } }

-- The definitions give the case's results.
abbrev pub Right : Case → Type 0
Right (draws t p n w h q) = (drawn_of t p ≡ accepted n w h) × (placed_in t p ≡ q)
Right (checks t p v) = Verdict t p v
Right (allows n w) = allowed_width n ≡ w

-- So for every case of a list.
abbrev pub All : (Case → Type 0) → List Case → Type 0
All P [] = Unit {0}
All P (c ∷ cs) = P c × All P cs

-- Words to bytes, low byte first.
abbrev pub bytes : List ℕ → List ℕ
bytes [] = []
bytes (w ∷ ws) = w % 256 ∷ w / 256 ∷ bytes ws

-- A table of words: next, left, right, tag of each record. The tables here chain their records in order.
abbrev alone : List ℕ
alone = bytes (1 ∷ 1 ∷ 0 ∷ 0 ∷ 0 ∷ 0 ∷ 0 ∷ 300 ∷ [])

abbrev one_left : List ℕ
one_left = bytes (1 ∷ 1 ∷ 0 ∷ 0 ∷ 2 ∷ 2 ∷ 0 ∷ 101 ∷ 0 ∷ 0 ∷ 0 ∷ 102 ∷ [])

abbrev one_right : List ℕ
one_right = bytes (1 ∷ 1 ∷ 0 ∷ 0 ∷ 2 ∷ 0 ∷ 2 ∷ 101 ∷ 0 ∷ 0 ∷ 0 ∷ 102 ∷ [])

abbrev two_leaves : List ℕ
two_leaves = bytes (1 ∷ 1 ∷ 0 ∷ 0 ∷ 2 ∷ 2 ∷ 3 ∷ 0 ∷ 3 ∷ 0 ∷ 0 ∷ 0 ∷ 0 ∷ 0 ∷ 0 ∷ 0 ∷ [])

-- t is 2, c is 3, g is 4, the left child or the right child of c
abbrev pending : ℕ → ℕ → List ℕ
pending l r = bytes (1 ∷ 1 ∷ 0 ∷ 0 ∷ 2 ∷ 2 ∷ 3 ∷ 0 ∷ 3 ∷ 0 ∷ 0 ∷ 0 ∷ 4 ∷ l ∷ r ∷ 0 ∷ 0 ∷ 0 ∷ 0 ∷ 0 ∷ [])

-- c is 2, s is 3, d is 4, e is 5, the left child or the right child of d
abbrev switched : ℕ → ℕ → List ℕ
switched l r = bytes (1 ∷ 1 ∷ 0 ∷ 0 ∷ 2 ∷ 0 ∷ 2 ∷ 0 ∷ 3 ∷ 3 ∷ 4 ∷ 0 ∷ 4 ∷ 0 ∷ 0 ∷ 0 ∷ 5 ∷ l ∷ r ∷ 0 ∷ 0 ∷ 0 ∷ 0 ∷ 0 ∷ [])

-- The subtree of 5 with the leaves y, 6, and z, 7, hangs from the right knee 4.
abbrev on_the_right : List ℕ
on_the_right = bytes (
    1 ∷ 1 ∷ 0 ∷ 0 ∷
    2 ∷ 0 ∷ 2 ∷ 0 ∷
    3 ∷ 3 ∷ 4 ∷ 0 ∷
    4 ∷ 0 ∷ 0 ∷ 0 ∷
    5 ∷ 5 ∷ 8 ∷ 0 ∷
    6 ∷ 6 ∷ 7 ∷ 0 ∷
    7 ∷ 0 ∷ 0 ∷ 0 ∷
    8 ∷ 0 ∷ 0 ∷ 0 ∷
    9 ∷ 9 ∷ 0 ∷ 0 ∷
    10 ∷ 0 ∷ 10 ∷ 0 ∷
    11 ∷ 11 ∷ 0 ∷ 0 ∷
    0 ∷ 0 ∷ 0 ∷ 0 ∷ [])

-- Placements: column and row of each record, the head's first; the head's are kept.
abbrev pub cases : List Case
cases =
    -- "Empty: width 0, height 0."
    draws (bytes (0 ∷ 0 ∷ 0 ∷ 0 ∷ [])) (8 ∷ 9 ∷ []) 0 0 0 (8 ∷ 9 ∷ []) ∷
    -- "One box: (0,0), 1 by 1."
    draws alone (8 ∷ 9 ∷ 7 ∷ 7 ∷ []) 1 1 1 (8 ∷ 9 ∷ 0 ∷ 0 ∷ []) ∷
    -- "Root and one child, left or right: (0,0), (1,1)."
    draws one_left (8 ∷ 9 ∷ 7 ∷ 7 ∷ 7 ∷ 7 ∷ []) 2 2 2 (8 ∷ 9 ∷ 0 ∷ 0 ∷ 1 ∷ 1 ∷ []) ∷
    draws one_right (8 ∷ 9 ∷ 7 ∷ 7 ∷ 7 ∷ 7 ∷ []) 2 2 2 (8 ∷ 9 ∷ 0 ∷ 0 ∷ 1 ∷ 1 ∷ []) ∷
    -- "Root, leaves left and right: left (1,2), right (1,1). Width 2, height 3."
    draws two_leaves (8 ∷ 9 ∷ 7 ∷ 7 ∷ 7 ∷ 7 ∷ 7 ∷ 7 ∷ []) 3 2 3 (8 ∷ 9 ∷ 0 ∷ 0 ∷ 1 ∷ 2 ∷ 1 ∷ 1 ∷ []) ∷
    -- "Root, left leaf t, right c, and c has one child g: c (1,1), g (1,2), t (1,3)."
    draws (pending 4 0) (8 ∷ 9 ∷ 7 ∷ 7 ∷ 7 ∷ 7 ∷ 7 ∷ 7 ∷ 7 ∷ 7 ∷ []) 4 2 4 (8 ∷ 9 ∷ 0 ∷ 0 ∷ 1 ∷ 3 ∷ 1 ∷ 1 ∷ 1 ∷ 2 ∷ []) ∷
    draws (pending 0 4) (8 ∷ 9 ∷ 7 ∷ 7 ∷ 7 ∷ 7 ∷ 7 ∷ 7 ∷ 7 ∷ 7 ∷ []) 4 2 4 (8 ∷ 9 ∷ 0 ∷ 0 ∷ 1 ∷ 3 ∷ 1 ∷ 1 ∷ 1 ∷ 2 ∷ []) ∷
    -- "Root, right c; c has left leaf s and right d; d has one child e: c (1,1), s (1,2), d (3,2), e (2,3)."
    draws (switched 5 0) (8 ∷ 9 ∷ 7 ∷ 7 ∷ 7 ∷ 7 ∷ 7 ∷ 7 ∷ 7 ∷ 7 ∷ 7 ∷ 7 ∷ []) 5 4 4 (8 ∷ 9 ∷ 0 ∷ 0 ∷ 1 ∷ 1 ∷ 1 ∷ 2 ∷ 3 ∷ 2 ∷ 2 ∷ 3 ∷ []) ∷
    draws (switched 0 5) (8 ∷ 9 ∷ 7 ∷ 7 ∷ 7 ∷ 7 ∷ 7 ∷ 7 ∷ 7 ∷ 7 ∷ 7 ∷ 7 ∷ []) 5 4 4 (8 ∷ 9 ∷ 0 ∷ 0 ∷ 1 ∷ 1 ∷ 1 ∷ 2 ∷ 3 ∷ 2 ∷ 2 ∷ 3 ∷ []) ∷
    -- "Subtree of root, leaves y left and z right, hung on a right side: seen from its root, y one column left, 1 down; z one column left, 2 down."
    -- Its root, 5, is at (3,3), y, 6, at (2,4), and z, 7, at (2,5).
    draws on_the_right (
    8 ∷ 9 ∷ 7 ∷ 7 ∷ 7 ∷ 7 ∷ 7 ∷ 7 ∷ 7 ∷ 7 ∷ 7 ∷ 7 ∷ 7 ∷ 7 ∷ 7 ∷ 7 ∷ 7 ∷ 7 ∷ 7 ∷ 7 ∷ 7 ∷ 7 ∷ 7 ∷ 7 ∷ []) 11 5 10 (
    8 ∷ 9 ∷ 0 ∷ 0 ∷ 1 ∷ 1 ∷ 1 ∷ 2 ∷ 4 ∷ 2 ∷ 3 ∷ 3 ∷ 2 ∷ 4 ∷ 2 ∷ 5 ∷ 3 ∷ 6 ∷ 3 ∷ 7 ∷ 3 ∷ 8 ∷ 3 ∷ 9 ∷ []) ∷
    -- "Allowed width: 1 box gives 1, 2 and 3 give 4, 4 gives 7."
    allows 1 1 ∷
    allows 2 4 ∷
    allows 3 4 ∷
    allows 4 7 ∷
    -- "Check: root (0,0), left (0,1), right (0,2)": 23 in document 01; "The starred sheet with three boxes in column 0 now gets 25" (document 02, Paper 7)
    checks two_leaves (8 ∷ 9 ∷ 0 ∷ 0 ∷ 0 ∷ 1 ∷ 0 ∷ 2 ∷ []) 25 ∷
    -- "Same root, left (2,1), right (1,1): 24."
    checks two_leaves (8 ∷ 9 ∷ 0 ∷ 0 ∷ 2 ∷ 1 ∷ 1 ∷ 1 ∷ []) 24 ∷
    -- "Root (0,0), only child (1,0)": 22 in document 01; "The starred level sheet becomes good" (document 02, Paper 4)
    checks one_left (8 ∷ 9 ∷ 0 ∷ 0 ∷ 1 ∷ 0 ∷ []) 0 ∷
    checks one_right (8 ∷ 9 ∷ 0 ∷ 0 ∷ 1 ∷ 0 ∷ []) 0 ∷ []
