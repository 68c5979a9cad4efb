-- The laws of segments. None is assumed.
pub mod Decides
pub mod Weights
pub mod Difference
pub mod CrossProduct
pub mod Range
pub mod SharedPoint
pub mod Clashing
pub mod Separate
pub mod Crossing
pub mod Alike
pub mod FourKinds
pub mod Answers
