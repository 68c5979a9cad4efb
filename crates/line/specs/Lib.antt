-- A line as a number serves the check's search alone, whose contract does not cite it.
pub mod inner
