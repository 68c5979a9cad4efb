-- The meaning of line segments in whole numbers (document 01, "What the sheet check says"; document 02, Paper 7). Read in this order.
pub mod Segment
pub mod Meeting
pub mod inner
