pub mod Promises
pub mod Types
