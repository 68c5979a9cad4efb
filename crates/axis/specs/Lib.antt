-- Along which axis lines are seen serves the check's search alone, whose contract does not cite it.
pub mod inner
