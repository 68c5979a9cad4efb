-- What the library's functions answer to other languages.
pub mod Bits
