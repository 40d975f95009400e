pub mod PlainFacts
pub mod MarkFacts
pub mod FrontFacts
pub mod AheadFacts
pub mod SharingFacts
