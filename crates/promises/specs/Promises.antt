-- The page of promises: what is proved beyond the contracts of functions, each promise with its quantifiers and its hypothesis, in the order of the demands
-- (docs/GROUNDS.md) and of the papers. t and u are any bytes, p any placements. All of them are kept: `Promises`, at the end; proofs/Promises names the laws.
use Rattle.std.specs.Prelude.{◌≡◌, ◌↔◌, false, List, [], ◌∷◌, ◌++◌, ℕ, ◌+◌, ◌-◌, ◌*◌, ◌/◌, ◌%◌, ◌^◌, ◌≤◌, ◌<◌, T, length, Float}
use Rattle.std.specs.Float.{binary64}
use Rattle.std.specs.Float.Ieee.{fits}
use Rattle.std.specs.Float.Ieee.Exact.{HasValue}
use Rattle.segment.specs.declared.Point.{Point}
use Rattle.segment.specs.declared.meeting.Meeting.{Meeting}
use Rattle.segment.specs.Segment.{at}
use Rattle.segment.specs.Meeting.{MeetSo}
use Rattle.table.specs.Lists.{member, repeats}
use Rattle.table.specs.Table.{Side, records, word, next_of, left_of, right_of, follow, chain, Chained, Empty, first_free, free, Line}
use Rattle.table.specs.Tree.{Tree, node, nodes, tree_at}
use Rattle.table.specs.Trees.{roots, trees, nodes_of}
use Rattle.table.specs.Refusal.{fault, refusal}
use Rattle.table.specs.OffChain.{OnNeither, OffChain}
use Rattle.table.specs.Writing.{Bytes}
use Rattle.width.specs.Allowed.{IsFloor, floor_log2, allowed_width}
use Rattle.layout.specs.Layout.{width, RootAt, shift}
use Rattle.layout.specs.Drawing.{Part, widest, place, steps, draw}
use Rattle.layout.specs.Rectangle.{OnSpine}
use Rattle.drawing.specs.Answer.{drawn_of, placed_in, KeptElsewhere}
use Rattle.wide.specs.Wide.{transposed, wide_of, wide_placed_in}
use Rattle.verdict.specs.Verdict.{Verdict}
use Rattle.guarantee.specs.Demand.{Kept}
use Rattle.guarantee.specs.Corollary1.{WideKept}
use Rattle.guarantee.specs.Rows.{NoSharedRows, UnderRuler, NoGaps}
use Rattle.pen.specs.Quarter.{quarter_of}
use Rattle.pen.specs.Lines.{lines}
use Rattle.pen.specs.Strokes.{strokes, stroke_of}
use Rattle.pen.specs.Plotted.{PlottedOnce}
use Rattle.hanging.specs.Hanging.{hang_refusal, hang_says, hung}
use Rattle.hanging.specs.Holding.{held_refusal}
use Rattle.cutting.specs.Cutting.{cut_refusal, cut_out, after_cut}
use Rattle.changes.specs.Leaf.{HungLeaf, CutLeaf}
use Rattle.changes.specs.Halves.{SecondHalf}
use Rattle.changes.specs.Calls.{Call, after, after_all, Conserved}
use Rattle.before.specs.Tables.{refusal_before, Narrowed, refusal_first}
use Rattle.before.specs.Plans.{AsBefore, WideAsBefore}
use Rattle.before.specs.Verdicts.{Recast}
use Rattle.fields.specs.Fields.{decimal}
use Rattle.text.specs.Text.{lent, text_of}
use Rattle.starred.specs.Cases.{Right, All, cases}

-- ---- that definitions by a number of steps cut nothing off

-- The chain and the free records of an accepted table: more steps add nothing.
abbrev pub ChainsWhole : Type 0
ChainsWhole = (t : List ℕ) → fault t ≡ 0 → (n : ℕ) → (follow (records t + n) t (next_of t 0) ≡ chain t) × (follow (records t + n) t (first_free t) ≡ free t)

-- Its trees: the tree at a chained record is its node over the trees at its links; all have the chained records, each once.
abbrev pub TreesWhole : Type 0
TreesWhole = (t : List ℕ) → fault t ≡ 0 → (k : ℕ) → Chained t k → tree_at t k ≡ node k (tree_at t (left_of t k)) (tree_at t (right_of t k))

abbrev pub TreesOfTheChain : Type 0
TreesOfTheChain = (t : List ℕ) → fault t ≡ 0 → ((k : ℕ) → T (member k (nodes_of (trees t))) ↔ Chained t k) × (repeats (nodes_of (trees t)) ≡ false)

-- The drawing of a tree is made by the steps, of which drawing what hangs is one.
abbrev pub DrawnBySteps : Type 0
DrawnBySteps = (a : Tree) → draw a ≡ steps draw a

-- Columns flipped at W + 2: what is drawn from a spine node on is at most W + 3 wide, so that no difference cuts off.
abbrev pub FlipsWhole : Type 0
FlipsWhole = (W H r p : ℕ) (ps : List Part) → widest ps ≤ W → width (place W H r p ps).drawn ≤ W + 3

-- The allowed width: floor_log2 n is floor(log2 n), and no other number is.
abbrev pub OneFloor : Type 0
OneFloor = (n k : ℕ) → 1 ≤ n → IsFloor n k ↔ (k ≡ floor_log2 n)

-- A number in decimal: its last digit, after those of its tenth.
abbrev pub DigitsWhole : Type 0
DigitsWhole = (n : ℕ) → (n < 10 → decimal n ≡ (48 + n) ∷ []) × (10 ≤ n → decimal n ≡ decimal (n / 10) ++ ((48 + n % 10) ∷ []))

-- ---- demand 1: what is lent

-- "Entries of the head, of unchained records and beyond are kept", refused or not
abbrev pub PlainKeepsOthers : Type 0
PlainKeepsOthers = (t p : List ℕ) → KeptElsewhere t p (placed_in t p)

abbrev pub WideKeepsOthers : Type 0
WideKeepsOthers = (t p : List ℕ) → KeptElsewhere t p (wide_placed_in t p)

-- "Records on neither chain are still allowed and never taken": any call keeps all their words
abbrev pub NeverTaken : Type 0
NeverTaken = (t : List ℕ) (k j : ℕ) → OnNeither t k → j < 4 → (c : Call) → word (after c t) k j ≡ word t k j

-- "the rule that left, right and tag change no answer is now theirs alone": call by call
abbrev pub OffChainPlain : Type 0
OffChainPlain = (t u p : List ℕ) → OffChain t u → (drawn_of u p ≡ drawn_of t p) × (placed_in u p ≡ placed_in t p)

abbrev pub OffChainWide : Type 0
OffChainWide = (t u p : List ℕ) → OffChain t u → (wide_of u p ≡ wide_of t p) × (wide_placed_in u p ≡ wide_placed_in t p)

abbrev pub OffChainVerdict : Type 0
OffChainVerdict = (t u p : List ℕ) (v : ℕ) → OffChain t u → Verdict t p v ↔ Verdict u p v

abbrev pub OffChainStroke : Type 0
OffChainStroke = (t u p : List ℕ) (pitch number : ℕ) → OffChain t u → stroke_of u p pitch number ≡ stroke_of t p pitch number

abbrev pub OffChainHang : Type 0
OffChainHang = (t u : List ℕ) → OffChain t u → (parent side : ℕ) → hang_says u parent side ≡ hang_says t parent side

abbrev pub OffChainHeld : Type 0
OffChainHeld = (t u : List ℕ) → OffChain t u → (parent side held : ℕ) → held_refusal u parent side held ≡ held_refusal t parent side held

abbrev pub OffChainCut : Type 0
OffChainCut = (t u : List ℕ) → OffChain t u → (k : ℕ) → cut_refusal u k ≡ cut_refusal t k

abbrev pub OffChainText : Type 0
OffChainText = (t u : List ℕ) → OffChain t u → text_of u ≡ text_of t

-- And what the calls that write a table leave of such tables are such tables.
abbrev pub OffChainAfter : Type 0
OffChainAfter = (t u : List ℕ) → OffChain t u → (c : Call) → OffChain (after c t) (after c u)

-- The program lends enough placements for every table: it never says `refused 6`.
abbrev pub NeverSix : Type 0
NeverSix = (t : List ℕ) → refusal t (length lent) ≡ fault t

-- ---- demand 2: the check

-- Only one answer is right.
abbrev pub OneVerdict : Type 0
OneVerdict = (t p : List ℕ) (v w : ℕ) → Verdict t p v → Verdict t p w → v ≡ w

-- The sheets worked by hand that document 01 stars.
abbrev pub StarredSheets : Type 0
StarredSheets = All Right cases

-- ---- demand 3: what the drawer accepts is good, narrow and short

abbrev pub AcceptedIsGood : Type 0
AcceptedIsGood = (t p : List ℕ) → (drawn_of t p).refusal ≡ 0 → Kept t p

-- "At 4,096 it is 37", and no number of nodes allows more; so, with what was just said, no drawing is wider.
abbrev pub AtMost37 : Type 0
AtMost37 = (allowed_width 4096 ≡ 37) × ((n : ℕ) → allowed_width n ≤ 37)

-- ---- document 02, Paper 1: "A wide plan with its columns and rows exchanged must pass the sheet check against the mirrored table"

abbrev pub WideIsGood : Type 0
WideIsGood = (t p : List ℕ) → (wide_of t p).number ≡ 0 → WideKept t p

-- ---- Paper 2: strokes

-- "Each line gives a lift to the parent and then a draw to the child"
abbrev pub LinesPlottedOnce : Type 0
LinesPlottedOnce = (t p : List ℕ) (pitch k c : ℕ) (s : Side) → fault t ≡ 0 → Line t k s c → PlottedOnce t p pitch k c

-- n nodes, at least 1, in m trees have 2·(n − m) strokes.
abbrev pub StrokesNumbered : Type 0
StrokesNumbered =
    (t p : List ℕ) (pitch : ℕ) → fault t ≡ 0 → 1 ≤ length (chain t) →
    length (strokes p pitch (lines t)) ≡ 2 * (length (chain t) - length (roots t))

-- "and must be exact": no other 64-bit float is that number
abbrev pub OneQuarter : Type 0
OneQuarter = (x : Float) (n : ℕ) → n < 2 ^ 32 → T (fits binary64 x) → HasValue x false n 4 → x ≡ (quarter_of n).float

-- ---- Papers 3 and 4, roles first and level lines: all in contracts, of `choose_roles` (roles/src/choosing.rt) and of the check

-- ---- Paper 5: hanging and cutting

-- "the first free record becomes that child, follows its parent in the chain"
abbrev pub HangsALeaf : Type 0
HangsALeaf = (t : List ℕ) (parent side tag : ℕ) → hang_refusal t parent side ≡ 0 → HungLeaf t parent side tag

-- "Cut takes a childless box out of the chain .. and puts it first among the free"; "cutting the only box empties the tree"
abbrev pub CutsALeaf : Type 0
CutsALeaf = (t : List ℕ) (k : ℕ) → cut_refusal t k ≡ 0 → CutLeaf t k

abbrev pub CutsTheLast : Type 0
CutsTheLast = (t : List ℕ) (k : ℕ) → cut_refusal t k ≡ 0 → chain t ≡ k ∷ [] → Empty (cut_out t k)

-- "Cutting a box just hung restores every byte"
abbrev pub CutRestores : Type 0
CutRestores =
    (t : List ℕ) (parent side tag : ℕ) → Bytes t → tag < 65536 → hang_refusal t parent side ≡ 0 →
    (cut_refusal (hung t parent side tag) (first_free t) ≡ 0) × (after_cut (hung t parent side tag) (first_free t) ≡ t)

-- "After any calls from an accepted table it is accepted, and chained plus free records number the same as at the start"
abbrev pub CallsConserve : Type 0
CallsConserve = (cs : List Call) (t : List ℕ) → fault t ≡ 0 → Conserved t (after_all cs t)

-- As document 01 has the refusals, before this request: a table that was accepted is accepted (`Narrowed`, Paper 8, goes on from there), and one whose head's
-- right is zero is refused as it was.
abbrev pub AcceptedFirst : Type 0
AcceptedFirst = (t : List ℕ) (places : ℕ) → refusal_first t places ≡ 0 → refusal_before t places ≡ 0

abbrev pub RefusedFirst : Type 0
RefusedFirst = (t : List ℕ) (places : ℕ) → first_free t ≡ 0 → refusal_before t places ≡ refusal_first t places

abbrev pub PlanAsFirst : Type 0
PlanAsFirst = (t p : List ℕ) → refusal_first t (length p) ≡ 0 → AsBefore t p

-- ---- Paper 6: "The halves in succession do what hang does"

abbrev pub HalvesHang : Type 0
HalvesHang = (t : List ℕ) (parent side tag held : ℕ) → SecondHalf t parent side tag held

-- ---- Paper 7: crossing or touching

-- The four kinds of meeting exclude each other and leave nothing out.
abbrev pub OneMeeting : Type 0
OneMeeting = (k m : Meeting) (P Q R S : Point) → MeetSo k P Q R S → MeetSo m P Q R S → k ≡ m

abbrev pub SomeMeeting : Type 0
SomeMeeting = (P Q R S : Point) → (m : Meeting) × MeetSo m P Q R S

-- "Good sheets are the same ones as before", "25 .. covers what else 23 used to cover"
abbrev pub VerdictsRecast : Type 0
VerdictsRecast = (t p : List ℕ) → Recast t p

-- ---- Paper 8: several trees

-- "set with its root at column 0 in the row under the tree before": a tree that is drawn from row r on
abbrev pub RootsBelow : Type 0
RootsBelow = (r : ℕ) (a : Tree) → RootAt (at 0 r) (shift 0 r (draw a))

-- And in the wide plan, columns and rows exchanged: in row 0, in the column beside the tree before.
abbrev pub WideRootsBeside : Type 0
WideRootsBeside = (r : ℕ) (a : Tree) → RootAt (at r 0) (transposed (shift 0 r (draw a)))

-- "5 is left for .."
abbrev pub FiveNarrowed : Type 0
FiveNarrowed = (t : List ℕ) → Narrowed t

-- "Tables taken before get the plan they had."
abbrev pub PlanAsBefore : Type 0
PlanAsBefore = (t p : List ℕ) → refusal_before t (length p) ≡ 0 → AsBefore t p

abbrev pub WidePlanAsBefore : Type 0
WidePlanAsBefore = (t p : List ℕ) → refusal_before t (length p) ≡ 0 → WideAsBefore t p

-- ---- Paper 9, of every plan that the drawer accepts, in the placements as it left them

-- "the drawings of its hung subtrees occupy rows that no other drawing of that spine occupies, and spine boxes lie outside their rectangles"
abbrev pub RowsNotShared : Type 0
RowsNotShared = (t p : List ℕ) → (drawn_of t p).refusal ≡ 0 → NoSharedRows t p

-- "When I cover a branch with a ruler I want nothing of its neighbour beneath it"
abbrev pub RulerCovers : Type 0
RulerCovers = (t p : List ℕ) → (drawn_of t p).refusal ≡ 0 → UnderRuler t p

-- "Every row from 0 to the height less 1 holds a box."
abbrev pub RowsFilled : Type 0
RowsFilled = (t p : List ℕ) → (drawn_of t p).refusal ≡ 0 → NoGaps t p

-- "For every spine": each node of a tree is on one.
abbrev pub EveryNodeOnASpine : Type 0
EveryNodeOnASpine = (a : Tree) (k : ℕ) → T (member k (nodes a)) → OnSpine a k

-- ---- all of them

pub record Promises : Type 0 where
  pub chains_whole : ChainsWhole
  pub trees_whole : TreesWhole
  pub trees_of_the_chain : TreesOfTheChain
  pub drawn_by_steps : DrawnBySteps
  pub flips_whole : FlipsWhole
  pub one_floor : OneFloor
  pub digits_whole : DigitsWhole
  pub plain_keeps_others : PlainKeepsOthers
  pub wide_keeps_others : WideKeepsOthers
  pub never_taken : NeverTaken
  pub off_chain_plain : OffChainPlain
  pub off_chain_wide : OffChainWide
  pub off_chain_verdict : OffChainVerdict
  pub off_chain_stroke : OffChainStroke
  pub off_chain_hang : OffChainHang
  pub off_chain_held : OffChainHeld
  pub off_chain_cut : OffChainCut
  pub off_chain_text : OffChainText
  pub off_chain_after : OffChainAfter
  pub never_six : NeverSix
  pub one_verdict : OneVerdict
  pub starred_sheets : StarredSheets
  pub accepted_is_good : AcceptedIsGood
  pub at_most37 : AtMost37
  pub wide_is_good : WideIsGood
  pub lines_plotted_once : LinesPlottedOnce
  pub strokes_numbered : StrokesNumbered
  pub one_quarter : OneQuarter
  pub hangs_a_leaf : HangsALeaf
  pub cuts_a_leaf : CutsALeaf
  pub cuts_the_last : CutsTheLast
  pub cut_restores : CutRestores
  pub calls_conserve : CallsConserve
  pub accepted_first : AcceptedFirst
  pub refused_first : RefusedFirst
  pub plan_as_first : PlanAsFirst
  pub halves_hang : HalvesHang
  pub one_meeting : OneMeeting
  pub some_meeting : SomeMeeting
  pub verdicts_recast : VerdictsRecast
  pub roots_below : RootsBelow
  pub wide_roots_beside : WideRootsBeside
  pub five_narrowed : FiveNarrowed
  pub plan_as_before : PlanAsBefore
  pub wide_plan_as_before : WidePlanAsBefore
  pub rows_not_shared : RowsNotShared
  pub ruler_covers : RulerCovers
  pub rows_filled : RowsFilled
  pub every_node_on_a_spine : EveryNodeOnASpine
