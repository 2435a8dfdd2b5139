-- What is printed of bytes and of a value that may be missing; a line's text and what a piece makes of it; and what is told of two
-- runs of bytes.
pub mod Printed
pub mod Text
pub mod Same
