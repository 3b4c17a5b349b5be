pub mod Parts
pub mod Waiting
pub mod Holding
pub mod Stores
pub mod Changes
