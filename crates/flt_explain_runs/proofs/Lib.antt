pub mod Closing
pub mod QuietLines
pub mod Reports
pub mod Said
pub mod Several
pub mod ShownWarnings
pub mod Whole
