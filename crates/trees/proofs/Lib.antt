-- The laws that the tests of links and trees need, in the order in which they rest on each other, and among them those of the children of a chain's
-- nodes (Children). Rest on the laws of tables and of chains.
pub mod Tally
pub mod Roots
pub mod Order
pub mod Children
pub mod Reached
pub mod Sizes
pub mod Rooting
