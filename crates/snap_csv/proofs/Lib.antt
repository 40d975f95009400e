pub mod RowFacts
pub mod FieldFacts
pub mod OneLine
pub mod RoomFacts
pub mod LookupFacts
pub mod WriteFacts
mod StampedTextFacts
