pub mod Cut
pub mod Known
pub mod Lengths
pub mod Spelling
pub mod Starts
pub mod Texts
