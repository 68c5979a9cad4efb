-- The drawing by document 01's steps (document 004, section 4, Algorithm BT-Ordered-Draw), and of several trees; what is promised of its rows and rectangles
-- (document 02, Paper 9). Read in this order.
pub mod Layout
pub mod Spine
pub mod Drawing
pub mod Trees
pub mod Rectangle
pub mod inner
