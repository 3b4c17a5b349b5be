pub mod Adding
pub mod Asking
pub mod Closing
pub mod Folders
pub mod Linking
pub mod OneExcess
pub mod OneReading
pub mod Places
