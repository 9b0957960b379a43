pub mod Kinds
pub mod Walk
pub mod Answers
pub mod Blocks
pub mod Layout
pub mod inner
