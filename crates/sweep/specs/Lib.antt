-- The search for lines that meet serves the check alone, whose contract does not cite it.
pub mod inner
