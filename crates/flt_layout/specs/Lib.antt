pub mod Formatted
pub mod Items
pub mod Laws
pub mod Layout
