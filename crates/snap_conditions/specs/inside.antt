-- Definitions for the proofs of this crate alone: no clause that a caller reads cites them.
pub mod Limits
pub mod Places
pub mod ShownAndNext
pub mod Tallies
