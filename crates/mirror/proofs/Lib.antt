-- The laws of what is done at each of several records (Each, and Loops for the code), of the exchanged table (Table) and of the exchanged placements
-- (Placements).
pub mod Each
pub mod Loops
pub mod Table
pub mod Placements
