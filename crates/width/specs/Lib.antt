-- The allowed width (document 01, "Words of the sheet").
pub mod Allowed
