pub mod Checks
pub mod Ranges
