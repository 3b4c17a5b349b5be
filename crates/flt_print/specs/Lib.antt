pub mod ActionWords
pub mod CallWords
pub mod Line
pub mod Operands
pub mod Printing
pub mod Reprinting
pub mod Vocabulary
