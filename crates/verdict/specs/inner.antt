-- What the steps of a check say to each other.
pub mod Steps
