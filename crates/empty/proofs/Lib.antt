pub mod EmptyLaws
pub mod EmptyWhen
