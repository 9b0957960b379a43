pub mod Numbers
pub mod Refusals
pub mod Times
pub mod inner
