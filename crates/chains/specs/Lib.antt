-- For the contracts of functions on a table's records. No promise to a caller is here: what they answer is said by the definitions of `table`.
pub mod inner
