pub mod Events
pub mod Kinds
pub mod Records
