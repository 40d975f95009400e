pub mod Values
pub mod Calls
pub mod Names
pub mod LineEnds
pub mod Components
