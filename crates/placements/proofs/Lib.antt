-- The laws of placements.
pub mod Points
