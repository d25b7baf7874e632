pub mod Types
pub mod Promises
