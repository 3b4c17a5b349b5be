pub mod Escaping
pub mod Page
pub mod Places
pub mod Read
pub mod Reports
pub mod Rows
pub mod Texts
