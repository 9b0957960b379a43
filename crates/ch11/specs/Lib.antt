pub mod Given
pub mod Calls
pub mod Interface
