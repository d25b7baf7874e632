pub mod RecordLaws
pub mod WalkLaws
pub mod LaunchLaws
pub mod FreeLaws
pub mod RoomLaws
