pub mod Sums
pub mod Header
pub mod Rules
pub mod Table
pub mod Contents
pub mod inner
