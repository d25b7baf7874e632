pub mod ScanLaws
pub mod OpeningLaws
