pub mod Runs
mod Plain
pub mod Verdicts
pub mod Once
pub mod Each
