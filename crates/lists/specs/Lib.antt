pub mod Lists
pub mod Counts
pub mod CountLaws
pub mod FirstLaws
pub mod ListLaws
pub mod OccurrenceLaws
