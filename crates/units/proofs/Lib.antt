pub mod Numbers
pub mod Parts
pub mod Writes
pub mod Bytes
pub mod Sums
pub mod Choices
pub mod Sames
