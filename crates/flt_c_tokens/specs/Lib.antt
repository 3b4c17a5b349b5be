pub mod Bytes
pub mod Fronts
pub mod Scan
pub mod Signs
pub mod Spelled
pub mod Tokens
pub mod Vocabulary
pub mod Words
