mod Pages
mod Suites
pub mod Summing
mod Troubles
pub mod Written
