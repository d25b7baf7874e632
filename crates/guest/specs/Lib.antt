pub mod Bytes
pub mod Prog
pub mod Forms
pub mod Trace
