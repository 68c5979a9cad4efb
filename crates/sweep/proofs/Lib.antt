-- The laws of meetings of lines as numbers. None is assumed.
pub mod Grades
pub mod Seeing
