-- The laws of lines as numbers. None is assumed.
pub mod Numbers
