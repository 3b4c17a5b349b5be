pub mod Before
mod Cuts
pub mod Fronts
pub mod Starts
