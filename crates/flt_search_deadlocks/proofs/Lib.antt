pub mod Deadlocked
pub mod Legal
pub mod Rounds
