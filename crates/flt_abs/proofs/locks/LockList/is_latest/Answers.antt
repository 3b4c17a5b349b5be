use Rattle.std.proofs.Common.{◌≤◌, length}
use Rattle.flt_abs.proofs.LockLemmas.{latest_at}
use Rattle.flt_abs.proofs.locks.LockList.is_latest.Goals as goal

pub returns-in-len1-up : goal.returns-in-len1-up
returns-in-len1-up c =
    let full : 1 ≤ length c.self.inside.locks.items = rw (← c.as_slice.ensures) c.in-len1-up.len_at_least in
    rw (c.is_same.ensures, c.as_slice.ensures, ← c.self.view_is) (latest_at c.args.lock _ c.self.inside.locks.items full)
