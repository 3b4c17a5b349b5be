pub mod Asking
pub mod Stuck
pub mod Waiting
