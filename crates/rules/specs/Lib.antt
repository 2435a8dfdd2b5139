-- Document 01's rules as definitions, in its order, and demand 3 on them. Rules and tests compute; what is claimed of them is a record with named
-- fields (`Accepted`, `Carries`, `Waiting`, `Longest`).
--
--   State      the state, and new                        Accepted   which states are accepted, as conditions and as a test
--   Outcome    what a call makes of a state              Picking    rule P, schedule
--   Waking     create to enqueue                         Ticking    tick, yield, handoff, plan
--   Queries    0b to 10                                  Step       all of them as one, and lists of calls
--   Took       what P takes in a call                    Paper      an answer's numbers
--   Touched    which records a call can change
--   Stretch    X's stretch, its picks, those before X    Waiting    what is claimed of every list
--   Longest    what keeps the stretch from being cut short
pub mod State
pub mod Accepted
pub mod Outcome
pub mod Picking
pub mod Waking
pub mod Ticking
pub mod Queries
pub mod Step
pub mod Took
pub mod Paper
pub mod Touched
pub mod Stretch
pub mod Waiting
pub mod Longest
