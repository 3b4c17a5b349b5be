-- When a step that others see isn't enabled. Source: the driver kit's pages on spin locks, fast mutexes and push locks.
use Rattle.std.specs.Prelude.{ℕ, Bool, false, not, List, [], ◌∷◌}
use Rattle.flt_rules.specs.declared.held.Access.TheVariants.{Exclusive, Shared}
use Rattle.flt_tree.specs.declared.filter.PlainCall.TheVariants as plain
use Rattle.flt_tree.specs.declared.filter.Statement.{Statement, out-Statement}
use Rattle.flt_tree.specs.declared.filter.Statement.TheOpen.{Statement-F}
use Rattle.flt_model.specs.Steps.{may_take}
use Rattle.flt_model.specs.World.{World}

-- a statement asks for a lock that other activations hold in a way that refuses it
abbrev pub is_blocked_by : World → ℕ → Statement-F Statement → Bool
is_blocked_by w a (Statement-F.Call span (plain.AcquireLock k l)) = not (may_take w a l Exclusive)
is_blocked_by w a (Statement-F.Call span (plain.AcquirePushLockShared l)) = not (may_take w a l Shared)
is_blocked_by w a _ = false

-- a list begins with such a statement
abbrev pub is_blocked : World → ℕ → List Statement → Bool
is_blocked w a [] = false
is_blocked w a (s ∷ rest) = is_blocked_by w a (out-Statement s)
