-- The laws of the verdict, and the proofs of the functions. None is assumed.
pub mod Unique
pub mod Clashes
pub mod OffChain
pub mod Decide
pub mod Parent
pub mod Turning
pub mod Places
pub mod Faults
pub mod Judged
