-- The parents of nodes, as a list.
pub mod Parents
