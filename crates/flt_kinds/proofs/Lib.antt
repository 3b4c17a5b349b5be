mod Closing
mod Deciding
mod Marks
mod Moves
mod Narrow
mod Opens
mod Steps
