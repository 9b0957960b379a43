pub mod Seeking
pub mod Passing
pub mod Adding
pub mod Renewing
