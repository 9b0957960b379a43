pub mod Build
pub mod Run
