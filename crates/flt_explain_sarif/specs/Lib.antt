pub mod DriftResults
pub mod Fingerprints
pub mod Results
pub mod RunFlow
pub mod Sarif
pub mod WarningResults
