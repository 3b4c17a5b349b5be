-- What a detached filter leaves: nothing. Its parts are counted (Parts); a step of another filter adds none (Others, Leaving), nor does a
-- move (Passing), who holds a lock has it in its list (Holding), and an operation at a filter has a visit there (Visiting). So what is gone
-- stays gone, and by the equations of an accepted run nothing is owned (Unowned, Gone).
pub mod Gone
pub mod Holding
pub mod Leaving
pub mod Others
pub mod Parts
pub mod Passing
pub mod Unowned
pub mod Visiting
