pub mod Allocate
pub mod AllocateLaws
pub mod AllocateWhen
