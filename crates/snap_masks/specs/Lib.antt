pub mod Limits
pub mod Numbers
pub mod Masks
pub mod Ranks
pub mod inside
