-- Pen strokes (document 02, Paper 2). Read in this order.
pub mod Quarter
pub mod Lines
pub mod Strokes
pub mod Plotted
pub mod inner
