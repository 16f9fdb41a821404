pub mod Lone
pub mod Many
pub mod Orders
pub mod Released
pub mod Promises
