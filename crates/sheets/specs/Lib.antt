pub mod Sheets
pub mod SheetLaws
pub mod LoneLaws
pub mod SheetSound
