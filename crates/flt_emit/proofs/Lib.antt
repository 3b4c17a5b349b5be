mod Appending
mod MajorNames
mod Walks
