-- The drawing as a program makes it (Held) and measures it (Width), for the contracts between functions only: both are proved equal to the drawing.
pub mod Held
pub mod Width
