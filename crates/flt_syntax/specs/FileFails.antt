-- The faults of heads, callbacks, locks and files, behind what the text declares before them: beside each production a constructor
-- for each place where it can fail. What stands before that place is spelled by the grammar.
use Rattle.std.specs.Prelude.{◌≡◌, ◌≢◌, ◌≤◌, ◌<◌, ◌-◌, ℕ, true, false, List, [], ◌∷◌, ◌++◌, length, is_some, Option}
use Rattle.flt_rules.specs.declared.call.LockKind.{LockKind}
use Rattle.flt_syntax.specs.StatementFails.{StatementsFails}
use Rattle.flt_syntax.specs.Over.{QueueOver}
use Rattle.flt_syntax.specs.WordFails.{Refused, NextFails, MeantFails, NameFails, NumberFails}
use Rattle.flt_syntax.specs.Cursor.{Input, kind, fault_at}
use Rattle.flt_syntax.specs.Grammar.{HeadAt, CallbackAt, LocksAt, QueueAt}
use Rattle.flt_syntax.specs.FirstWords.{begins_head}
use Rattle.flt_syntax.specs.Scope.{Scope}
use Rattle.flt_syntax.specs.Operations.{operation_of}
use Rattle.flt_syntax.specs.Tables.{lock_kind_of}
use Rattle.flt_syntax.specs.Words.{Next, Meant, NameAt, NumberAt}
use Rattle.flt_syntax.specs.declared.fault.FaultKind.TheVariants.{E05, E06}
use Rattle.flt_syntax.specs.declared.fault.SyntaxFault.{SyntaxFault}
use Rattle.flt_syntax.specs.declared.token.Kind.TheVariants as k
use Rattle.flt_tree.specs.Declarations.{AreNewLocks, is_declared, has_event, has_routine, has_lock}
use Rattle.flt_rules.specs.Limits.{max_altitude, max_locks, max_callbacks, max_depth, max_repeats}
use Rattle.flt_tree.specs.Measures.{is_small}
use Rattle.flt_tree.specs.Names.{Text}
use Rattle.flt_tree.specs.declared.filter.Callback.{Callback}
use Rattle.flt_tree.specs.declared.filter.Head.{Head}
use Rattle.flt_tree.specs.declared.filter.Lock.{Lock}
use Rattle.flt_tree.specs.declared.filter.Position.{Position}

-- NAME of a routine, behind the callbacks that were found
pub data NewNameFails (text : Text) (found : List Callback) : Input → SyntaxFault → Type 0 where
  no_name : {i : Input} {f : SyntaxFault} → NameFails i f → NewNameFails text found i f
  name_twice : {i o : Input} {name : Text} → NameAt text i name o → has_routine name found ≡ true →
      NewNameFails text found i (fault_at E05 i)

-- head, behind the callbacks that were found
pub data HeadFails (text : Text) (found : List Callback) : Input → SyntaxFault → Type 0 where
  no_head : {i : Input} {f : SyntaxFault} → begins_head (kind i) ≡ false → Refused i f → HeadFails text found i f
  -- "pre" OP
  pre : {i a : Input} {f : SyntaxFault} → length found < max_callbacks → Next k.Pre i a → MeantFails operation_of a f →
      HeadFails text found i f
  -- "post" OP
  post : {i a : Input} {f : SyntaxFault} → length found < max_callbacks → Next k.Post i a → MeantFails operation_of a f →
      HeadFails text found i f
  -- an event a second time, at the first word of its head, even as the seventeenth callback
  event_twice : {i o : Input} {h : Head} → HeadAt text i h o → has_event h found ≡ true → HeadFails text found i (fault_at E05 i)
  -- "deferred_pre" NAME
  deferred_pre : {i a : Input} {f : SyntaxFault} → length found < max_callbacks → Next k.DeferredPre i a → NewNameFails text found a f →
      HeadFails text found i f
  -- "deferred_post" NAME
  deferred_post : {i a : Input} {f : SyntaxFault} → length found < max_callbacks → Next k.DeferredPost i a → NewNameFails text found a f →
      HeadFails text found i f
  -- "generic" NAME
  generic : {i a : Input} {f : SyntaxFault} → length found < max_callbacks → Next k.Generic i a → NewNameFails text found a f →
      HeadFails text found i f
  -- a seventeenth callback, at its first word, unless it is an event a second time
  callback_too_many : {i : Input} → max_callbacks ≤ length found → begins_head (kind i) ≡ true →
      ((h : Head) (o : Input) → HeadAt text i h o → has_event h found ≡ false) → HeadFails text found i (fault_at E06 i)

-- head block
pub data CallbackFails (scope : Scope) (found : List Callback) : Input → SyntaxFault → Type 0 where
  head : {i : Input} {f : SyntaxFault} → HeadFails scope.text found i f → CallbackFails scope found i f
  brace : {i a : Input} {h : Head} {f : SyntaxFault} → HeadAt scope.text i h a → is_declared h found ≡ false →
      length found < max_callbacks → NextFails k.OpenBrace a f → CallbackFails scope found i f
  body : {i a b : Input} {h : Head} {f : SyntaxFault} → HeadAt scope.text i h a → is_declared h found ≡ false →
      length found < max_callbacks → Next k.OpenBrace a b → StatementsFails scope (max_depth - 1) max_repeats b f →
      CallbackFails scope found i f
  -- too many points or too great a cost, told at the first word
  too_great : {i o : Input} {c : Callback} → CallbackAt scope i c o → is_declared c.head found ≡ false →
      length found < max_callbacks → is_small c ≡ false → CallbackFails scope found i (fault_at E06 i)

-- callback { callback }, behind the callbacks that were found, up to the end of the text
pub data CallbacksFails (scope : Scope) : List Callback → Input → SyntaxFault → Type 0 where
  here : {found : List Callback} {i : Input} {f : SyntaxFault} → CallbackFails scope found i f → CallbacksFails scope found i f
  later_callback : {found : List Callback} {i j : Input} {c : Callback} {f : SyntaxFault} → CallbackAt scope i c j →
      is_declared c.head found ≡ false → length found < max_callbacks → is_small c ≡ true → kind j ≢ k.End →
      CallbacksFails scope (found ++ c ∷ []) j f → CallbacksFails scope found i f

-- { "lock" ("spin" | "fast" | "push") NAME }, behind the locks that were found
pub data LocksFails (text : Text) : List Lock → Input → SyntaxFault → Type 0 where
  sort : {found : List Lock} {i a : Input} {f : SyntaxFault} → Next k.Lock i a → MeantFails lock_kind_of a f → LocksFails text found i f
  no_lock_name : {found : List Lock} {i a b : Input} {lk : LockKind} {f : SyntaxFault} →
      Next k.Lock i a → Meant lock_kind_of a lk b → NameFails b f → LocksFails text found i f
  -- a name a second time comes before the limit, at the name
  lock_twice : {found : List Lock} {i a b o : Input} {lk : LockKind} {name : Text} →
      Next k.Lock i a → Meant lock_kind_of a lk b → NameAt text b name o → has_lock name found ≡ true →
      LocksFails text found i (fault_at E05 b)
  lock_too_many : {found : List Lock} {i a b o : Input} {lk : LockKind} {name : Text} →
      Next k.Lock i a → Meant lock_kind_of a lk b → NameAt text b name o → has_lock name found ≡ false → max_locks ≤ length found →
      LocksFails text found i (fault_at E06 b)
  later_lock : {found : List Lock} {i a b o : Input} {lk : LockKind} {name : Text} {f : SyntaxFault} →
      Next k.Lock i a → Meant lock_kind_of a lk b → NameAt text b name o → has_lock name found ≡ false → length found < max_locks →
      LocksFails text (found ++ record { kind = lk; name = name } ∷ []) o f → LocksFails text found i f

-- "filter" NAME "altitude" NUMBER { "lock" lock } [ "queue" ] callback { callback }
pub data FileFails (text : Text) : Input → SyntaxFault → Type 0 where
  filter : {i : Input} {f : SyntaxFault} → NextFails k.Filter i f → FileFails text i f
  no_filter_name : {i a : Input} {f : SyntaxFault} → Next k.Filter i a → NameFails a f → FileFails text i f
  altitude : {i a b : Input} {name : Text} {f : SyntaxFault} → Next k.Filter i a → NameAt text a name b → NextFails k.Altitude b f →
      FileFails text i f
  number : {i a b c : Input} {name : Text} {f : SyntaxFault} → Next k.Filter i a → NameAt text a name b → Next k.Altitude b c →
      NumberFails 1 max_altitude c f → FileFails text i f
  locks : {i a b c d : Input} {name : Text} {n : ℕ} {f : SyntaxFault} → Next k.Filter i a → NameAt text a name b → Next k.Altitude b c →
      NumberAt c n d → 1 ≤ n → n ≤ max_altitude → LocksFails text [] d f → FileFails text i f
  callbacks : {i a b c d e l : Input} {name : Text} {n : ℕ} {ls : List Lock} {q : Option Position} {f : SyntaxFault} →
      Next k.Filter i a → NameAt text a name b → Next k.Altitude b c → NumberAt c n d → 1 ≤ n → n ≤ max_altitude →
      LocksAt text d ls e → kind e ≢ k.Lock → AreNewLocks [] ls → length ls ≤ max_locks → (p : QueueAt e q l) → QueueOver p →
      CallbacksFails (record { text = text; locks = ls; queue = is_some q }) [] l f → FileFails text i f
