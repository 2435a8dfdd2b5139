-- Laws about what a stream writes, and about what a line adds to the counts.
--
--   Written     what a stream makes of a block where so much room is lent, and the text that it writes
--   Tallies     what each kind of line adds
mod Tallies
mod Written
