pub mod CheckLaws
pub mod RangeLaws
