pub mod Refusals
pub mod Sessions
