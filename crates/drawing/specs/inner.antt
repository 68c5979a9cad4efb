-- What is left to place, for the contracts between functions only.
pub mod Placing
pub mod Told
