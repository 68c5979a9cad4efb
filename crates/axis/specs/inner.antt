-- Lines seen along either axis.
pub mod Arranged
