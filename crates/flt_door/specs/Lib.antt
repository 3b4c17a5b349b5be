pub mod Door
pub mod Lines
