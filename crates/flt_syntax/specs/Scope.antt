-- What a text declares before its callbacks, and how the names are read that its calls use.
use Rattle.std.specs.Prelude.{Bool, List}
use Rattle.flt_rules.specs.declared.call.LockKind.{LockKind}
use Rattle.flt_rules.specs.declared.call.LockNumber.{LockNumber}
use Rattle.flt_syntax.specs.Cursor.{Parser, and_then, ◌>>=◌, pure, place, bytes_of, fault_at, found_or, name}
use Rattle.flt_tree.specs.Declarations.{lock_number}
use Rattle.flt_tree.specs.Names.{Text}
use Rattle.flt_syntax.specs.declared.fault.FaultKind.TheVariants.{E04}
use Rattle.flt_tree.specs.declared.filter.Lock.{Lock}
use Rattle.flt_tree.specs.declared.filter.Routine.{Routine}
use Rattle.flt_syntax.specs.declared.scope.Scope as declared

-- what the calls of a text may name: the text, its locks in order of declaration, and whether there is a queue
pub record Scope : Type 0 where
  pub text : Text
  pub locks : List Lock
  pub queue : Bool

-- the scope that a value of the code stands for
abbrev pub scope_of : declared.Scope → Scope
scope_of s = record { text = s.text.now; locks = s.locks.now; queue = s.has_queue }

-- NAME where only a declared lock of the kind may stand
unfoldable pub lock_named : Scope → LockKind → Parser LockNumber
lock_named scope kind = λ i.
    and_then (name i) (λ q. found_or (fault_at E04 i) (lock_number kind (bytes_of scope.text q.0) scope.locks) q.1)

-- NAME, of which the bytes are kept
unfoldable pub spelled : Text → Parser Text
spelled text = do
  t ← name
  pure (bytes_of text t)

-- NAME of a routine, which may be declared later
unfoldable pub routine : Scope → Parser Routine
routine scope = do
  at ← place
  name ← spelled scope.text
  pure (record { name = name; position = at })
