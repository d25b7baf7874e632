pub mod Types
pub mod Refusals
pub mod Table
pub mod Steps
pub mod Walks
pub mod Commands
pub mod Calls
pub mod Rules
