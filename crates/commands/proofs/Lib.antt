pub mod OutcomeLaws
pub mod ReachLaws
pub mod ConfigureLaws
