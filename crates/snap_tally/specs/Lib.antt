pub mod Grids
pub mod inside
