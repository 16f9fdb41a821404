pub mod Ready
pub mod StepLaws
pub mod TopLaws
