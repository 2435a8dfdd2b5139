-- What any crate may use: Arrays reads the scheduler's arrays as the accepted state that they hold; Builders puts a scheduler together; for a caller
-- that lends a state from a local and walks its code by hand, Lending is one such call, Loans are block and tick as it meets them, and MachineValues
-- has the facts about machine values that these use.
--
-- How the code is shown to follow the rules: Searches is about searches through a list, and Mapped about one that is mapped in its place; Promises
-- makes a contract of what a method did; OnSlots, OnBands and OnCores say what each call comes to on each way through the code, and OnLent walks a
-- function on a lent state by hand, which the checker does by itself for those that are here. The functions' own proofs cite these. The laws of the
-- rules are the crate below.
pub mod MachineValues
pub mod Lending
pub mod Loans
pub mod Arrays
pub mod Builders
mod Searches
mod Mapped
mod Promises
mod OnSlots
mod OnBands
mod OnCores
mod OnLent
