pub mod Overlaps
pub mod Shown
pub mod Stats
pub mod Lines
pub mod inside
