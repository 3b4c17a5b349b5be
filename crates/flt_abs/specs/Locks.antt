-- Lists of held locks that a state may have.
use Rattle.std.specs.Prelude.{Bool, true, not, ◌&&◌, List, [], ◌∷◌}
use Rattle.flt_rules.specs.Held.{holds_lock}
use Rattle.flt_rules.specs.declared.held.HeldLock.{HeldLock}

-- none is held twice, so there are eight at most
abbrev pub are_locks : List HeldLock → Bool
are_locks [] = true
are_locks (h ∷ locks) = not (holds_lock h.lock locks) && are_locks locks
