pub mod Seen
pub mod Rows
pub mod Quick
pub mod Chains
pub mod Orders
pub mod inside
