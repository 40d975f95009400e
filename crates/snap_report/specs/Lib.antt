pub mod Lines
pub mod Refusals
pub mod Faults
pub mod Orders
pub mod Reports
pub mod inside
