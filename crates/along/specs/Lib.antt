pub mod Ready
pub mod AlongLaws
