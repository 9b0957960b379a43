pub mod Tables
pub mod Types
pub mod Frames
pub mod Stages
pub mod Widths
