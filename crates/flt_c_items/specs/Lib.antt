pub mod Cutting
pub mod Declarators
pub mod Fronts
pub mod Groups
pub mod Items
pub mod Kinds
pub mod Rows
