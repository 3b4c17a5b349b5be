pub mod Closing
pub mod Names
pub mod Operands
pub mod Page
pub mod Reports
pub mod Scene
