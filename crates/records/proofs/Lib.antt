-- Laws about the definitions of specs/, for the proofs of this crate and of those above.
pub mod Bands
pub mod Cases
pub mod Masks
pub mod States
