mod Answering
mod GoingOut
mod Ids
mod Keeping
