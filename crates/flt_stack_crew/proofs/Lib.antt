pub mod Aiming
pub mod Commands
pub mod Driving
pub mod Elements
pub mod Endings
pub mod Sums
