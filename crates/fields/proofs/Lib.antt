-- Laws of decimal numbers, and of what is written into a buffer.
pub mod Decimal
pub mod Puts
