-- For the contracts between functions only.
pub mod Steps
