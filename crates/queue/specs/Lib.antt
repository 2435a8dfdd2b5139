-- What the contracts of `queue` cite.
pub mod Promises
pub mod Entries
pub mod Stored
