pub mod Words
pub mod Fields
pub mod Spelling
pub mod Laws
pub mod inside
