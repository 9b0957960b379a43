pub mod Read
pub mod Messages
pub mod Write
