-- Two lines side by side (Side), and the lines abreast at a level of a sweep (Abreast).
pub mod Side
pub mod Abreast
