mod Jobs
mod Totals
mod Keeps
pub mod Finishing
pub mod Closing
