-- The proof of demand 3: over the definitions, Demand3; of the running code, Running. The proof of Corollary 1 of document 004, from demand 3: Corollary1.
-- The proof of no gaps, no shared rows: Rows.
pub mod TreeNodes
pub mod Demand3
pub mod Running
pub mod Corollary1
pub mod Rows
