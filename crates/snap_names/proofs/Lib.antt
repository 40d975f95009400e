pub mod ListFacts
mod TextFacts
pub mod WalkFacts
