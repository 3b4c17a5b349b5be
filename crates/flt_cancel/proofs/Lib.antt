mod Balance
mod Histories
mod Lists
mod Present
mod Serials
mod Steps
