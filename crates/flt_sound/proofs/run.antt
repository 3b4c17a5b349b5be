-- The run: the invariant at the start and after each step (Sound), and from it that no run breaks anything (Whole).
pub mod Accepting
pub mod Journals
pub mod Sound
pub mod Whole
