pub mod Calls
pub mod Slots
pub mod Adding
pub mod Renewing
pub mod Keeping
pub mod Renewal
