mod Fronts
pub mod Lines
mod Passing
mod Pieces
