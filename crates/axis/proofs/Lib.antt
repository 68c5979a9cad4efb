-- The laws of lines seen along an axis. None is assumed.
pub mod Arranging
