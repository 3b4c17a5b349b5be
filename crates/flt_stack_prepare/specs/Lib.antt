pub mod Certified
pub mod Preparing
pub mod Texts
