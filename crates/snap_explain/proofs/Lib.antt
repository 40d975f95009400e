pub mod Pieces
pub mod Explanations
pub mod FirstFaults
pub mod MistakeFacts
pub mod RecordFacts
mod XmlFacts
