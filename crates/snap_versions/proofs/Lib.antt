pub mod Answered
mod TurnFacts
mod VersionFacts
mod TurnLoop
pub mod Counted
pub mod Counts
pub mod Listing
pub mod Ranking
pub mod Showing
pub mod Staying
pub mod Tables
pub mod Sorting
pub mod Sorted
pub mod Latest
pub mod Earliest
pub mod Splitting
pub mod Gathered
pub mod Shared
pub mod Contradictions
pub mod Kin
pub mod Parts
pub mod Told
mod PlacedCalls
pub mod StoreFacts
