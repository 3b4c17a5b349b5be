pub mod Fronts
pub mod Keyed
pub mod Sources
