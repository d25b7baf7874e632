pub mod TableLaws
pub mod StepLaws
pub mod PromiseLaws
