pub mod Gathering
pub mod Fronts
mod Columns
