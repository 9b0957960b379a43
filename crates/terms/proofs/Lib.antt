pub mod Times
pub mod Numbers
