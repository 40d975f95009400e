pub mod Answered
pub mod IndexedCalls
pub mod Rows
pub mod Updates
pub mod inside
