pub mod Types
pub mod Records
pub mod Heads
