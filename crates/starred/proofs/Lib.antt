-- The proof of the starred sheets.
pub mod Starred
