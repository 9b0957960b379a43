pub mod Giving
pub mod Once
pub mod Interface
