-- The page of promises.
pub mod Promises
