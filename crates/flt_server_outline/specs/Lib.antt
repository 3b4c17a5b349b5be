pub mod Blocks
pub mod Places
pub mod Roles
pub mod Symbols
pub mod Uses
