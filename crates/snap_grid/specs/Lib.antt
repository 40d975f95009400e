pub use Rattle.snap_masks.specs.Limits
pub mod Columns
pub mod inside
