-- Document 01's frames and answers as lists of bytes, text of lines, the image, and the host entry. All of it computes; what a function promises is an
-- equation to one of these definitions, or a record with named fields of such equations.
--
--   Bytes           big-endian numbers                  Hex      two digits a byte
--   Frame           which call a frame stands for       Answer   the bytes of an answer
--   Lines           lines of text, and the text of their answers
--   Stream          text that comes in blocks, answered as far as a buffer has room
--   Image           the bytes of a state, and the state that bytes stand for
--   AcceptedImage   which images are accepted
--   Fits            calls and answers whose numbers fit their fields, and states that have an image
--   ReadWrite       what the reader and the writer of images promise
--   Host            what a call on an image and the host entry promise
--   Private         what the private functions promise
pub mod Bytes
pub mod Hex
pub mod Frame
pub mod Answer
pub mod Lines
pub mod Stream
pub mod Image
pub mod AcceptedImage
pub mod Fits
pub mod ReadWrite
pub mod Host
pub mod Private
