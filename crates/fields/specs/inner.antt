-- What the functions that write bytes say of their buffer.
pub mod Put
