mod Headers
mod Parts
mod Passed
mod Spellings
mod Steps
mod Turns
mod Uses
