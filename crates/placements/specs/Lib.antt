-- Placements: where the point of a record is stored.
pub mod Placements
