-- The laws of a walk (Walking), of what is listed and marked (Scan), and of a new array (Zeros). Rest on the laws of tables.
pub mod Walking
pub mod Scan
pub mod Zeros
