-- The laws that a reading needs, and those of a chain that is listed (Nodes) and gone through for a record (Finding). Rest on the laws of tables, chains
-- and trees; Scan, Zeros and Children are passed on.
pub mod Form
mod Answer
pub mod Nodes
pub mod Finding
pub use Rattle.chains.proofs.Scan
pub use Rattle.chains.proofs.Zeros
pub use Rattle.trees.proofs.Children
