pub mod Answers
pub mod Passes
pub mod Window
pub mod Own
pub mod Told
pub mod Writes
pub mod Longer
