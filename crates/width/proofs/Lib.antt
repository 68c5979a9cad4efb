-- Laws of the allowed width.
pub mod FloorLog2
