-- The sheets worked by hand in document 01.
pub mod Cases
