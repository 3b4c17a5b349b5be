pub mod Placing
pub mod Widths
pub mod Written
