mod Counting
mod Newcomers
mod Pushes
mod Splits
mod Steps
mod Takings
