pub mod Costs
pub mod FirstPlaces
pub mod Parts
