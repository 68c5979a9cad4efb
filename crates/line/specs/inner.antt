-- Lines as numbers.
pub mod Line
