-- Definitions for the proofs of this crate alone: no clause that a caller reads cites them.
pub mod Intake
pub mod Rows
pub mod StampedRows
