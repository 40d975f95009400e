pub mod Failures
pub mod Outlets
pub mod Painting
pub mod Pictures
pub mod Questions
