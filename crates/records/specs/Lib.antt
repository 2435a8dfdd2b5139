-- What the contracts of `records` cite: document 01's section "Task record, queues, holders" and the records that its other sections make. Lists has
-- the general definitions on lists that all crates use.
pub mod Lists
pub mod Band
pub mod Code
pub mod Error
pub mod Mask
pub mod ThreadState
pub mod Task
