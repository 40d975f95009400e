-- Definitions for the proofs of this crate alone: no clause that a caller reads cites them.
pub mod Listed
pub mod Turns
pub mod Ranked
pub mod RankedMoments
pub mod Unshown
pub mod Versions
pub mod Contradictions
pub mod Updates
