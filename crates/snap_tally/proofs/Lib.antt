pub mod Grids
pub mod Counted
pub mod Ranked
pub mod NumberTables
pub mod Faultless
mod Between
