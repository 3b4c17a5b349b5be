pub mod Mapped
pub mod Moves
pub mod Runs
pub mod SeenSteps
