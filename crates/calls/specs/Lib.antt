-- What the program does with a block that it read, and what that comes to over all blocks of its input. What a read brings, and what becomes of what is
-- written, no contract says.
pub mod Program
