-- Laws about the definitions of specs/. What a reader of texts or images, and whoever comes above, may cite:
--
--   Stores          bytes stored one behind the other, and read back
--   Elements        what holds of each element of a list
--   Numbers         big-endian numbers: written and read back, over every width
--   Widths          parts, and numbers, one behind the other, each in its width: written and read back, and a store inside one part
--   Digits          hexadecimal digits: written and read back
--   Sizes           how many bytes an answer has
--   Refused         lines that are no frame, those longer than any frame among them
--   Streams         text in blocks: what is held of a line, how much is used and written
--   Images          a state's image: written and read back
--   AcceptedImages  the test of acceptance; accepted images and accepted states
--   Typed           a scheduler's numbers fit the fields of an image, by their types
--   Statuses        what the status of an image says
--   StatesFit       a call whose numbers fit makes of a state that has an image one that has
--   AnswersFit      in an accepted state whose numbers fit, no number of an answer is too large for its field
--   Hosts           the host entry: what is refused, and what is done
--
-- How the functions are shown to meet their contracts: Runs is about numbers stored one behind the other, Encodings puts an answer together, Decodings
-- is which frames are read as a call, Cuts the first line of a text, Tellings what one line is told, ByLine a block taken line by line, LinePuts an answer stored as
-- a line, Holding what is held of a line, Progress the loop over the lines of a block. Writings puts an image together. Passing is tests one after the other, the loop
-- over the slots, what was asked of a whole list, and a sum of bytes; RecordBytes what a record's bytes say, Counting how often each slot stands in the queues, and Accepting has each way out of
-- the test of an image. Readings puts a scheduler together from the parts of an image, and Hosting has each way out of a new image, of a call on an
-- image and of the host entry.
pub mod Stores
pub mod Elements
pub mod Numbers
pub mod Widths
pub mod Digits
pub mod Sizes
pub mod Refused
pub mod Streams
pub mod Images
pub mod AcceptedImages
pub mod Typed
pub mod Statuses
pub mod StatesFit
pub mod AnswersFit
pub mod Hosts
mod Runs
mod Encodings
mod Decodings
mod Cuts
mod Tellings
mod ByLine
mod LinePuts
mod Holding
mod Progress
mod Writings
mod Passing
mod RecordBytes
mod Counting
mod Accepting
mod Readings
mod Hosting
