pub mod Last
pub mod Missed
pub mod Taken
pub mod Verdicts
pub mod inside
