-- What it takes that cutting is not refused (Places), who names a record on a listed chain (Finding), who names a leaf (Hooks), the answers of the call
-- (Answering), and records on neither chain (OffChain).
pub mod Places
pub mod Finding
pub mod Hooks
pub mod Answering
pub mod OffChain
