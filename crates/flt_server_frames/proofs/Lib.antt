pub mod Reading
pub mod Sending
pub mod Served
pub mod Written
