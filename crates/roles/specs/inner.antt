-- What measuring leaves for placing, and how it does it, for the contracts between functions only.
pub mod Sized
pub mod Forked
pub mod Prepared
pub mod Roles
pub mod Measured
