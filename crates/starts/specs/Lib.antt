pub mod Starts
pub mod StartLaws
pub mod StartSound
pub mod StartWhen
