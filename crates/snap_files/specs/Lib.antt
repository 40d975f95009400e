pub mod Files
pub mod Suites
pub mod Sums
pub mod inside
