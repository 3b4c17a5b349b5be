pub mod Hands
pub mod Laws
pub mod Rule
pub mod Seats
