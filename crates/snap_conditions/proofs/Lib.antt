pub mod Leasts
pub mod Finds
pub mod SeenPairs
pub mod NoUpdates
pub mod Parts
pub mod OneView
pub mod Compared
pub mod Places
pub mod Ranges
pub mod Missed
pub mod StaleViews
pub mod Limits
mod Worked
mod Surrounded
mod Left
mod Exchanged
