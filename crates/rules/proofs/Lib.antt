-- Laws about the definitions of specs/. What the rules promise:
--
--   KCases      K1 to K11, one table                      Accepts     the test of acceptance says what the conditions say
--   Calls       every call keeps acceptance; a pick carried is P's; no queue is full for a slot to be queued
--   Refusals    a refusal changes nothing; number 2 is never answered
--   Picks       rule P                                    Waiting     demand 3
--   Stretches   the stretch is as long as can be          Worked      one stretch, computed
--   OutOfTable  slots and cores of 64 and above, in queries
--   Elsewhere   which records a call leaves as they were
--
-- What laws about all calls go by cases on, here and in the crates above: Ways, the ways out of a call, with what is known on each.
--
-- What any crate may use: Says pairs each test with the fact that it tests, Invariant is acceptance as proofs carry it, Moves are the changes that
-- calls are made of, and Effects what each call does.
--
-- How the rest is shown: Lists and Parts are about lists and stores, Course is every call in an accepted state, Turns one call as X sees it.
pub mod KCases
pub mod Accepts
pub mod Calls
pub mod Refusals
pub mod Picks
pub mod Waiting
pub mod Stretches
pub mod Worked
pub mod OutOfTable
pub mod Elsewhere
pub mod Says
pub mod Invariant
pub mod Moves
pub mod Effects
mod Lists
mod Parts
pub mod Ways
mod Course
mod Turns
