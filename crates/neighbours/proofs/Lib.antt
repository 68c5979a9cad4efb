-- The laws of a sweep that compares neighbours, and which points the numbers of a line's ends stand for (Ends). None is assumed.
pub mod Levels
pub mod Chain
pub mod Steps
pub mod Ends
