-- The stored scheduler, and what its calls promise.
--
--   Stored      what the parts of a stored scheduler hold
--   Scheduler   what a stored scheduler holds, and what every call promises of it
--   Private     what the private functions promise
pub mod Stored
pub mod Scheduler
pub mod Private
