-- The laws that the functions of this crate rest on.
pub mod Forks
pub mod Choices
pub mod Frames
pub mod Spines
pub mod Surveys
