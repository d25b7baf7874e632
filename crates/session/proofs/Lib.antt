pub mod RecordLaws
pub mod SizeLaws
pub mod CourseLaws
pub mod SessionLaws
pub mod RunLaws
pub mod PartLaws
pub mod CountLaws
