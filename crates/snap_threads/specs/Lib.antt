pub mod Cuttings
pub mod Claiming
pub mod Draws
pub mod Counters
pub mod inside
