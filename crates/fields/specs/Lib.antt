-- Numbers in decimal, and the fields of a line.
pub mod Fields
pub mod inner
