pub mod Texts
pub mod Made
