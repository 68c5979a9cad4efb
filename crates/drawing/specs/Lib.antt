-- The drawer's whole answer.
pub mod Answer
pub mod inner
