pub mod Back
pub mod IndexedCalls
pub mod Ends
pub mod Numbers
pub mod Notes
pub mod Padding
pub mod LookUps
pub mod Known
