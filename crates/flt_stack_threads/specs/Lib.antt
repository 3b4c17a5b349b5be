pub mod Asking
pub mod Left
pub mod Places
pub mod Requests
pub mod Waiting
pub mod Working
