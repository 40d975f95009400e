pub mod Ahead
pub mod Lines
pub mod Sharing
pub mod Turns
