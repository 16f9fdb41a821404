pub mod Deallocate
pub mod DeallocateLaws
pub mod DeallocateWhen
