pub mod Kinds
pub mod Laws
pub mod PartValue
pub mod Parts
pub mod Rows
pub mod Tally
pub mod inside
