pub mod Units
pub mod Choice
