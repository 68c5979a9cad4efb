-- The laws of parents.
pub mod Upward
