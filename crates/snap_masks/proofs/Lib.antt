pub mod Bits
pub mod Lanes
pub mod Ranking
