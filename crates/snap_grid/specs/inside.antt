-- Definitions for the proofs of this crate alone: no clause that a caller reads cites them.
pub mod Clashes
pub mod Facing
pub mod Kept
pub mod Kinds
pub mod Sweeps
pub mod Trees
pub mod Together
