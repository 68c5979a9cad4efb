-- The laws of the drawing. What is promised: Clean, Theorem, Records. The geometry: Points to Along; its width, whatever the rows: Narrow. The rows: Rows,
-- Heights. From a spine to the tree: Spines, Whole. The form that the drawer's code follows: Sides, Held, Width. Several trees: Stacked. No shared rows:
-- Shown, Apart, EverySpine, OnSpine, Ruler.
pub mod Clean
pub mod Points
pub mod Meet
pub mod Motions
pub mod Rows
pub mod Steps
pub mod Along
pub mod Narrow
pub mod Heights
pub mod Spines
pub mod Whole
pub mod Theorem
pub mod Records
pub mod Sides
pub mod Held
pub mod Width
pub mod Stacked
pub mod Shown
pub mod Apart
pub mod EverySpine
pub mod OnSpine
pub mod Ruler
