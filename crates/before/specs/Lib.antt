-- What the answers were before a request of document 02, and what that request keeps of them: the refusals (Tables), the plans (Plans) and the verdicts
-- (Verdicts). What holds now is said without them.
pub mod Tables
pub mod Plans
pub mod Verdicts
