-- Cited by contracts of inner functions only: no contract of a public call rests on what stands here.
pub mod Walks
pub mod Heads
