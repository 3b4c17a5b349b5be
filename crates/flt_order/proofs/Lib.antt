pub mod Circles
pub mod Places
pub mod Ranks
