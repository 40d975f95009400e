-- What only the proofs of this crate need: no clause that a caller reads cites it.
pub mod Counts
pub mod Courses
pub mod Folders
pub mod Headers
pub mod Quotes
pub mod Refusals
pub mod Runs
pub mod Statuses
pub mod Stops
pub mod Sums
pub mod Waits
