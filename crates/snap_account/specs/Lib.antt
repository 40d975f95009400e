pub mod Calls
pub mod Drawn
pub mod Marks
pub mod Limits
pub mod Rule
pub mod Plays
pub mod Seats
pub mod Tries
