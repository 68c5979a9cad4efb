-- The wide plan, and the whole answer of its call.
pub mod Wide
pub mod inner
