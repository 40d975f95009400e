-- Definitions for the proofs of this crate alone: no clause that a caller reads cites them.
pub mod Blocks
pub mod Chains
pub mod Near
pub mod Shown
pub mod Stands
