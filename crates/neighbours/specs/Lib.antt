-- The sweep over neighbours serves the check's search alone, whose contract does not cite it.
pub mod inner
