-- Which lock a statement takes. Source: the driver kit's pages on spin locks, fast mutexes and push locks.
use Rattle.std.specs.Prelude.{Option, Some, None}
use Rattle.flt_rules.specs.declared.held.Access.TheVariants.{Exclusive, Shared}
use Rattle.flt_tree.specs.declared.filter.PlainCall.TheVariants as plain
use Rattle.flt_tree.specs.declared.filter.Statement.{Statement}
use Rattle.flt_tree.specs.declared.filter.Statement.TheOpen.{Statement-F}
use Rattle.flt_explain_waits.specs.declared.asking.Request.{Request}

-- the lock that a statement takes, and how; most take none
abbrev pub asked : Statement-F Statement → Option Request
asked (Statement-F.Call at (plain.AcquireLock k l)) = Some (record { span = at; lock = l; access = Exclusive })
asked (Statement-F.Call at (plain.AcquirePushLockShared l)) = Some (record { span = at; lock = l; access = Shared })
asked _ = None
