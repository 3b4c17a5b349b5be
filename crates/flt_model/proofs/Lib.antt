pub mod Altitudes
pub mod CleanRuns
pub mod FirstFaults
pub mod LastFrames
pub mod LocalCosts
pub mod LocalLaws
pub mod LockLaws
mod DecimalDigits
mod JournalLaws
mod LineEnds
mod LinePartLaws
mod LinesOnline
mod Numbers
mod Online
mod OperationSteps
mod ReadingSteps
mod SpelledOnce
mod SpelledRead
mod WritingSteps
