pub mod Answers
pub mod OneLine
pub mod Writing
pub mod inside
pub mod StampedAnswers
