-- Laws about the definitions of specs/.
--
--   Feeding   the goes in which a block is fed, and the blocks of an input
pub mod Feeding
