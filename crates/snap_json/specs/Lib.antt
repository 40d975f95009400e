pub mod Values
pub mod Calls
pub mod Differs
pub mod Faults
pub mod Objects
pub mod Stats
pub mod Laws
