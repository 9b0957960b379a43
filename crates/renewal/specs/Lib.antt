pub mod Table
pub mod Renewal
pub mod inner
