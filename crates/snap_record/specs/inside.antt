-- What only the proofs of this crate need: no clause that a caller reads cites it.
pub mod Delivery
pub mod Ends
pub mod Recording
pub mod Scripts
pub mod Workers
