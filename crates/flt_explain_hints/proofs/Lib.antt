pub mod Declared
pub mod Folds
pub mod Letters
pub mod Nearer
pub mod Placed
pub mod Rare
pub mod Tried
pub mod Written
