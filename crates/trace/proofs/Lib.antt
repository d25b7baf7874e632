pub mod RecordLaws
pub mod ApplyLaws
