pub mod FreeLists
pub mod FreeListLaws
pub mod ForgetLaws
