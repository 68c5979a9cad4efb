-- Laws of the drawer's answer, and of placing. The answer: Answered, OffChain, Elsewhere, Whole. Storing: StoredPoints, StoredOrder, StoredTrees. Along
-- a spine: Shapes, Columns, Onward, Walking, Keeping, Starting. From tree to tree: Stacking.
pub mod Answered
pub mod OffChain
pub mod StoredPoints
pub mod StoredOrder
pub mod StoredTrees
pub mod Elsewhere
pub mod Shapes
pub mod Columns
pub mod Keeping
pub mod Onward
pub mod Walking
pub mod Starting
pub mod Whole
pub mod Stacking
