-- For the contracts between functions only: what the tests of links and trees leave to the next one (Steps).
pub mod Steps
