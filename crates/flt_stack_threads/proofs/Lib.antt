mod Bits
mod Leaving
mod Lists
mod Sweeping
pub mod TakenFirst
