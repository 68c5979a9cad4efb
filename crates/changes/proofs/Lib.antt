-- The proofs of what the calls keep, in the order in which they rest on each other. A list with one number more: Inserted. Two tables that differ by one leaf:
-- Graft; from the one without it to the one with it (Grow...), and back (Prune...). Then the calls: Hanging; Hooked, Cutting; Undone, Restored; Elsewhere,
-- OffChain; Kept; Halves; and of the running code: Running.
pub mod Inserted
pub mod Graft
pub mod GrowChain
pub mod GrowLinks
pub mod GrowSound
pub mod GrowTree
pub mod PruneChain
pub mod PruneLinks
pub mod PruneSound
pub mod PruneTree
pub mod Hanging
pub mod Hooked
pub mod Cutting
pub mod Undone
pub mod Restored
pub mod Elsewhere
pub mod OffChain
pub mod Kept
pub mod Halves
pub mod Running
