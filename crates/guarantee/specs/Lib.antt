-- Demand 3: what the drawer accepts is good (Demand). Corollary 1 of document 004: what an accepted wide plan keeps (Corollary1). No gaps, no shared rows
-- (Rows).
pub mod Demand
pub mod Corollary1
pub mod Rows
