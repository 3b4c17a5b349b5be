pub mod Alike
pub mod Stages
