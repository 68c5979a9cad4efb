-- The tests that the code makes: proved to agree with the meaning.
pub mod Test
