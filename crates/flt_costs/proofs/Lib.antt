mod Leaving
mod Spending
mod Starting
mod Journals
mod Starts
mod Worked
