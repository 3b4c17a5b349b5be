pub mod Adding
pub mod Bounds
pub mod Grouping
pub mod Named
pub mod Parts
