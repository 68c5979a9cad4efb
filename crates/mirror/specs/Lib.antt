-- The exchanged table and the exchanged placements.
pub mod Exchanged
