-- The law of each promise.
pub mod Promises
