pub mod AsRead
pub mod Blocks
pub mod Front
pub mod Laws
pub mod Lines
pub mod Sources
pub mod Unfit
