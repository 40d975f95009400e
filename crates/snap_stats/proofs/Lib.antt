pub mod Counts
pub mod Spans
pub mod Marks
pub mod Distinct
pub mod Components
pub mod Pieces
