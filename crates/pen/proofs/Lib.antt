-- The laws of strokes, in the order in which they rest on each other, and the proofs of the functions. None is assumed.
pub mod Floats
pub mod Exact
pub mod Passing
pub mod LineList
pub mod Plotted
pub mod Answered
pub mod OffChain
