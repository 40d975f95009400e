pub mod Rows
pub mod Placed
pub mod Cuts
pub mod Refused
pub mod Stores
pub mod inside
