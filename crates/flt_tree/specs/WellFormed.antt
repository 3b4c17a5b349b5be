-- What holds of a filter that some text spells, whatever its lines: its names are words and its numbers fit, it keeps the
-- limits, and what it names is declared.
use Rattle.std.specs.Prelude.{◌≡◌, ◌≢◌, ◌<◌, ◌≤◌, ◌^◌, ◌-◌, ℕ, suc, Bool, true, List, [], ◌∷◌, length, is_some, Option, Some, IsTrue}
use Rattle.std.specs.List.{list_all}
use Rattle.flt_rules.specs.declared.call.LockKind.{LockKind}
use Rattle.flt_rules.specs.declared.call.LockKind.TheVariants.{Push}
use Rattle.flt_rules.specs.declared.call.LockNumber.{LockNumber}
use Rattle.flt_tree.specs.Declarations.{lock_name, lock_number, AreNewLocks, AreNewCallbacks, AreWhole, IsServed}
use Rattle.flt_tree.specs.Names.{is_name}
use Rattle.flt_rules.specs.Limits.{max_altitude, max_locks, max_callbacks, max_depth, max_repeats, max_turns}
use Rattle.flt_tree.specs.Measures.{are_small}
use Rattle.flt_tree.specs.declared.filter.Action.{Action}
use Rattle.flt_tree.specs.declared.filter.Action.TheVariants.{SetNumber, WriteValue}
use Rattle.flt_tree.specs.declared.filter.Callback.{Callback}
use Rattle.flt_tree.specs.declared.filter.Condition.{Condition}
use Rattle.flt_tree.specs.declared.filter.Condition.TheVariants as made
use Rattle.flt_tree.specs.declared.filter.FallibleCall.{FallibleCall}
use Rattle.flt_tree.specs.declared.filter.FallibleCall.TheVariants as fallible
use Rattle.flt_tree.specs.declared.filter.Filter.{Filter}
use Rattle.flt_tree.specs.declared.filter.Head.{Head}
use Rattle.flt_tree.specs.declared.filter.Head.TheVariants.{DeferredPre, DeferredPost, Generic}
use Rattle.flt_tree.specs.declared.filter.Lock.{Lock}
use Rattle.flt_tree.specs.declared.filter.PlainCall.{PlainCall}
use Rattle.flt_tree.specs.declared.filter.PlainCall.TheVariants as plain
use Rattle.flt_tree.specs.declared.filter.Routine.{Routine}
use Rattle.flt_tree.specs.declared.filter.Span.{Span}
use Rattle.flt_tree.specs.declared.filter.Statement.{Statement}
use Rattle.flt_tree.specs.declared.filter.Statement.TheVariants.{Act, Call, Return, If, Repeat}
use Rattle.flt_tree.specs.declared.filter.Status.{Status}
use Rattle.flt_tree.specs.declared.filter.Test.{Test}
use Rattle.flt_tree.specs.declared.filter.Test.TheVariants.{Equal, Less}
use Rattle.flt_tree.specs.declared.variable.Atom.{Atom}
use Rattle.flt_tree.specs.declared.variable.Atom.TheVariants as atoms
use Rattle.flt_tree.specs.declared.variable.Expression.{Expression}
use Rattle.flt_tree.specs.declared.variable.Expression.TheVariants as expressions

-- a number is below 2^64
abbrev pub IsAtom : Atom → Type 0
IsAtom (atoms.Number n) = n < 2 ^ 64
IsAtom (atoms.Variable n) = Unit {0}

abbrev pub IsExpression : Expression → Type 0
IsExpression (expressions.Atom x) = IsAtom x
IsExpression (expressions.Sum x y) = IsAtom x × IsAtom y
IsExpression (expressions.Difference x y) = IsAtom x × IsAtom y

abbrev pub IsAction : Action → Type 0
IsAction (SetNumber n e) = IsExpression e
IsAction (WriteValue c x) = IsAtom x
IsAction _ = Unit {0}

abbrev pub IsTest : Test → Type 0
IsTest (Equal n x) = IsAtom x
IsTest (Less n x) = IsAtom x
IsTest _ = Unit {0}

-- a variable stands once in a call, and the calls of the queue want one
abbrev pub IsFallible : Bool → FallibleCall Routine → Type 0
IsFallible queue (fallible.SetContext anchor existing c old) = old ≢ Some c
IsFallible queue (fallible.InsertIo c) = queue ≡ true
IsFallible queue (fallible.RemoveNextIo o c) = queue ≡ true
IsFallible queue (fallible.QueueDeferredIoWorkItem r c) = is_name r.name ≡ true
IsFallible queue (fallible.QueueGenericWorkItem r c) = is_name r.name ≡ true
IsFallible queue _ = Unit {0}

abbrev pub IsCondition : Bool → Condition → Type 0
IsCondition queue (made.Test t) = IsTest t
IsCondition queue (made.Succeeds c) = IsFallible queue c

-- the lock of a number is declared, and is of the kind
abbrev pub IsLock : List Lock → LockKind → LockNumber → Type 0
IsLock locks kind l = (is_name (lock_name locks l) ≡ true) × (lock_number kind (lock_name locks l) locks ≡ Some l)

abbrev pub IsPlain : List Lock → PlainCall → Type 0
IsPlain locks (plain.ReferenceContext c d) = d ≢ c
IsPlain locks (plain.AcquireLock kind l) = IsLock locks kind l
IsPlain locks (plain.AcquirePushLockShared l) = IsLock locks Push l
IsPlain locks (plain.ReleaseLock kind l) = IsLock locks kind l
IsPlain locks _ = Unit {0}

-- Statements in which blocks nest at most d deep, and repeats at most r.
mutual
  pub data IsStatement (locks : List Lock) (queue : Bool) : ℕ → ℕ → Statement → Type 0 where
    act : {d r : ℕ} {at : Span} {a : Action} → IsAction a → IsStatement locks queue d r (Act at a)
    call : {d r : ℕ} {at : Span} {c : PlainCall} → IsPlain locks c → IsStatement locks queue d r (Call at c)
    return : {d r : ℕ} {at : Span} {s : Option Status} → IsStatement locks queue d r (Return at s)
    choice : {d r : ℕ} {at : Span} {c : Condition} {granted refused : List Statement} →
        IsCondition queue c → IsBlock locks queue d r granted → IsElse locks queue d r refused →
        IsStatement locks queue d r (If at c granted refused)
    repeat : {d r : ℕ} {at : Span} {n : ℕ} {body : List Statement} → n ≤ max_turns → IsBlock locks queue d r body →
        IsStatement locks queue d (suc r) (Repeat at n body)

  -- no statements, or a block of some
  pub data IsElse (locks : List Lock) (queue : Bool) : ℕ → ℕ → List Statement → Type 0 where
    no_else : {d r : ℕ} → IsElse locks queue d r []
    some_else : {d r : ℕ} {s : Statement} {ss : List Statement} → IsBlock locks queue d r (s ∷ ss) → IsElse locks queue d r (s ∷ ss)

  pub data IsBlock (locks : List Lock) (queue : Bool) : ℕ → ℕ → List Statement → Type 0 where
    block : {d r : ℕ} {ss : List Statement} → AreStatements locks queue d r ss → IsBlock locks queue (suc d) r ss

  pub data AreStatements (locks : List Lock) (queue : Bool) : ℕ → ℕ → List Statement → Type 0 where
    empty : {d r : ℕ} → AreStatements locks queue d r []
    go_on : {d r : ℕ} {s : Statement} {ss : List Statement} →
        IsStatement locks queue d r s → AreStatements locks queue d r ss → AreStatements locks queue d r (s ∷ ss)

abbrev pub IsHead : Head → Type 0
IsHead (DeferredPre name) = is_name name ≡ true
IsHead (DeferredPost name) = is_name name ≡ true
IsHead (Generic name) = is_name name ≡ true
IsHead _ = Unit {0}

abbrev pub AreCallbacks : List Lock → Bool → List Callback → Type 0
AreCallbacks locks queue [] = Unit {0}
AreCallbacks locks queue (c ∷ cs) =
    IsHead c.head × AreStatements locks queue (max_depth - 1) max_repeats c.body × AreCallbacks locks queue cs

pub record IsWellFormed (f : Filter) : Type 0 where
  -- names are words
  pub name : is_name f.name ≡ true
  pub lock_names : list_all (λ l. is_name l.name) f.locks ≡ true
  -- the altitude is from 1 to 4294967295
  pub low : 1 ≤ f.altitude
  pub high : f.altitude ≤ max_altitude
  -- there are at most 8 locks, each with a name of its own
  pub few_locks : length f.locks ≤ max_locks
  pub new_locks : AreNewLocks [] f.locks
  -- there are 1 to 16 callbacks, each of them declared once
  pub some_callbacks : 1 ≤ length f.callbacks
  pub few_callbacks : length f.callbacks ≤ max_callbacks
  pub new_callbacks : AreNewCallbacks [] f.callbacks
  -- their heads and bodies are as asked, and within the limits on points and cost
  pub bodies : AreCallbacks f.locks (is_some f.queue) f.callbacks
  pub small : IsTrue (are_small f)
  -- what a queue, a `post` and the calls want is there
  pub served : IsServed f.queue f.callbacks
  pub whole : AreWhole f.callbacks f.callbacks
