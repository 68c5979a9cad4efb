-- For the contracts of functions only: no promise to a caller is here.
pub mod inner
