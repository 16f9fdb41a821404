pub mod Below
pub mod FirstLaws
