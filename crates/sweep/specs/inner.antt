-- The worst meeting of two lines as numbers.
pub mod Meetings
