mod Flagged
mod GoingOn
mod OverRuns
mod Raising
mod Shorter
mod Wrapped
