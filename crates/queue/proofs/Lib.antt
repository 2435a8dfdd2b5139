-- Laws about the definitions of specs/. `Entries`, `Counts` and `Stored` are for the crates above too. The others are this crate's own:
-- `Ring` has the window that entries stand in, `Places` the entry at a place, `Pushes` the answers of `push`, `Taking` the loop of
-- `take_at`, and `Removal` that of `remove`.
pub mod Counts
mod Places
mod Pushes
mod Removal
mod Ring
pub mod Entries
pub mod Stored
mod Taking
