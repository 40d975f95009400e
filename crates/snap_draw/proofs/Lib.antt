pub mod Cut
pub mod Made
pub mod MoreLines
pub mod MorePieces
