pub mod Views
pub mod ViewsWhen
