-- Laws of what is put behind a line.
pub mod Pieces
