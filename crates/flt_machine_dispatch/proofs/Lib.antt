pub mod Starting
pub mod Turning
