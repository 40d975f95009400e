pub mod Options
pub mod Runs
pub mod Statuses
pub mod Verdicts
pub mod Reports
pub mod Laws
