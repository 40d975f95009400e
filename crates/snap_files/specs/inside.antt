-- What only the proofs of this crate need: no clause that a caller reads cites it.
pub mod Files
pub mod Suites
pub mod Sums
