-- Definitions for the proofs of this crate alone: no clause that a caller reads cites them.
pub mod Kept
pub mod Ranked
pub mod Tables
