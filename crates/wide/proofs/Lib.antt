-- The laws of the wide plan: of transposed layouts (Transposed), of the exchanged table drawn (Mirrored), of the answer (Answered), and of what is kept and
-- what changes nothing (Elsewhere).
pub mod Transposed
pub mod Mirrored
pub mod Answered
pub mod Elsewhere
