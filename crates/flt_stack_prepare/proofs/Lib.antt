pub mod Answered
pub mod Firsts
pub mod Preparation
