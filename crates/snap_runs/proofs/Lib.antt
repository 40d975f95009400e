pub mod Narrow
pub mod Recordings
pub mod Shrinking
pub mod Mapping
pub mod Tables
pub mod Answering
pub mod Counted
pub mod Telling
pub mod Drawings
pub mod TestCases
mod StoreTextFacts
mod StoreRunFacts
