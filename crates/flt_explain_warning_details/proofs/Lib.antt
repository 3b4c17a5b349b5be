pub mod IdleComments
pub mod Keys
mod Orderly
pub mod Serving
