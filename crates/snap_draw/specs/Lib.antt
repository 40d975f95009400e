pub mod Calls
pub mod Marks
pub mod Window
pub mod Timelines
pub mod Pieces
pub mod Ends
pub mod inside
