-- The grammar of statements, callbacks and files. Each constructor is a production.
use Rattle.std.specs.Prelude.{◌≡◌, ◌≤◌, ℕ, suc, ◌-◌, List, [], ◌∷◌, is_some, Option, Some, None}
use Rattle.flt_rules.specs.declared.call.LockKind.{LockKind}
use Rattle.flt_rules.specs.declared.place.Operation.{Operation}
use Rattle.flt_syntax.specs.ActionGrammar.{ActionAt, ConditionAt}
use Rattle.flt_syntax.specs.CallGrammar.{PlainAt, OptionalStatusAt}
use Rattle.flt_syntax.specs.Cursor.{Input, kind, position, span}
use Rattle.flt_tree.specs.Names.{Text}
use Rattle.flt_syntax.specs.Scope.{Scope}
use Rattle.flt_rules.specs.Limits.{max_depth, max_repeats, max_turns}
use Rattle.flt_syntax.specs.Operations.{operation_of}
use Rattle.flt_syntax.specs.Tables.{lock_kind_of}
use Rattle.flt_syntax.specs.Words.{Next, Meant, NameAt, NumberAt}
use Rattle.flt_tree.specs.declared.filter.Action.{Action}
use Rattle.flt_tree.specs.declared.filter.Callback.{Callback}
use Rattle.flt_tree.specs.declared.filter.Condition.{Condition}
use Rattle.flt_tree.specs.declared.filter.Filter.{Filter}
use Rattle.flt_tree.specs.declared.filter.Head.{Head}
use Rattle.flt_tree.specs.declared.filter.Head.TheVariants.{Pre, Post, Canceled, DeferredPre, DeferredPost, Generic}
use Rattle.flt_tree.specs.declared.filter.Lock.{Lock}
use Rattle.flt_tree.specs.declared.filter.PlainCall.{PlainCall}
use Rattle.flt_tree.specs.declared.filter.Position.{Position}
use Rattle.flt_tree.specs.declared.filter.Statement.{Statement}
use Rattle.flt_tree.specs.declared.filter.Statement.TheVariants.{Act, Call, Return, If, Repeat}
use Rattle.flt_tree.specs.declared.filter.Status.{Status}
use Rattle.flt_syntax.specs.declared.token.Kind.TheVariants as k

-- the line of the first token
abbrev pub line : Input → ℕ
line i = (position i).line

-- `StatementAt scope d r i s o`: the tokens of i up to o spell the statement s, which stands there: an `if` on the line of its word,
-- with the tokens of what it asks, a `repeat` with its word and its number. In it blocks nest at most d deep, and repeats at most r.
mutual
  pub data StatementAt (scope : Scope) : ℕ → ℕ → Input → Statement → Input → Type 0 where
    act : {d r : ℕ} {i o : Input} {a : Action} → ActionAt i a o → StatementAt scope d r i (Act (span i o) a) o
    -- plain
    call : {d r : ℕ} {i o : Input} {c : PlainCall} → PlainAt scope i c o → StatementAt scope d r i (Call (span i o) c) o
    -- "return" [ status ]
    return : {d r : ℕ} {i a o : Input} {s : Option Status} → Next k.Return i a → OptionalStatusAt a s o →
        StatementAt scope d r i (Return (span i o) s) o
    -- "if" cond block [ "else" block ]
    choice : {d r : ℕ} {i a b l o : Input} {c : Condition} {granted refused : List Statement} →
        Next k.If i a → ConditionAt scope a c b → BlockAt scope d r b granted l → ElseAt scope d r l refused o →
        StatementAt scope d r i (If (record (span a b) { line = line i }) c granted refused) o
    -- "repeat" NUMBER block, of at most 1000 turns
    repeat : {d r n : ℕ} {i a b o : Input} {body : List Statement} →
        Next k.Repeat i a → NumberAt a n b → n ≤ max_turns → BlockAt scope d r b body o →
        StatementAt scope d (suc r) i (Repeat (span i b) n body) o

  -- [ "else" block ], of which an empty one is like none
  pub data ElseAt (scope : Scope) : ℕ → ℕ → Input → List Statement → Input → Type 0 where
    no_else : {d r : ℕ} {i : Input} → ElseAt scope d r i [] i
    some_else : {d r : ℕ} {i j o : Input} {ss : List Statement} → Next k.Else i j → BlockAt scope d r j ss o → ElseAt scope d r i ss o

  -- "{" { stmt } "}"
  pub data BlockAt (scope : Scope) : ℕ → ℕ → Input → List Statement → Input → Type 0 where
    block : {d r : ℕ} {i a b o : Input} {ss : List Statement} →
        Next k.OpenBrace i a → StatementsAt scope d r a ss b → Next k.CloseBrace b o → BlockAt scope (suc d) r i ss o

  -- { stmt }
  pub data StatementsAt (scope : Scope) : ℕ → ℕ → Input → List Statement → Input → Type 0 where
    empty : {d r : ℕ} {i : Input} → StatementsAt scope d r i [] i
    go_on : {d r : ℕ} {i j o : Input} {s : Statement} {ss : List Statement} →
        StatementAt scope d r i s j → StatementsAt scope d r j ss o → StatementsAt scope d r i (s ∷ ss) o

-- head
pub data HeadAt (text : Text) : Input → Head → Input → Type 0 where
  -- "pre" OP
  pre : {i a o : Input} {op : Operation} → Next k.Pre i a → Meant operation_of a op o → HeadAt text i (Pre op) o
  -- "post" OP
  post : {i a o : Input} {op : Operation} → Next k.Post i a → Meant operation_of a op o → HeadAt text i (Post op) o
  -- "canceled"
  canceled : {i o : Input} → Next k.Canceled i o → HeadAt text i Canceled o
  -- "deferred_pre" NAME
  deferred_pre : {i a o : Input} {name : Text} → Next k.DeferredPre i a → NameAt text a name o → HeadAt text i (DeferredPre name) o
  -- "deferred_post" NAME
  deferred_post : {i a o : Input} {name : Text} → Next k.DeferredPost i a → NameAt text a name o → HeadAt text i (DeferredPost name) o
  -- "generic" NAME
  generic : {i a o : Input} {name : Text} → Next k.Generic i a → NameAt text a name o → HeadAt text i (Generic name) o

-- head block: the callback keeps where the head and the closing brace stand
pub data CallbackAt (scope : Scope) : Input → Callback → Input → Type 0 where
  callback : {i a b l o : Input} {h : Head} {body : List Statement} →
      HeadAt scope.text i h a → Next k.OpenBrace a b → StatementsAt scope (max_depth - 1) max_repeats b body l → Next k.CloseBrace l o →
      CallbackAt scope i (record { head = h; position = position i; span = span i a; body = body; end = span l o }) o

-- callback { callback }
pub data CallbacksAt (scope : Scope) : Input → List Callback → Input → Type 0 where
  last : {i o : Input} {c : Callback} → CallbackAt scope i c o → CallbacksAt scope i (c ∷ []) o
  more : {i j o : Input} {c : Callback} {cs : List Callback} → CallbackAt scope i c j → CallbacksAt scope j cs o →
      CallbacksAt scope i (c ∷ cs) o

-- { "lock" ("spin" | "fast" | "push") NAME }
pub data LocksAt (text : Text) : Input → List Lock → Input → Type 0 where
  no_lock : {i : Input} → LocksAt text i [] i
  one_lock : {i a b j o : Input} {kind : LockKind} {name : Text} {ls : List Lock} →
      Next k.Lock i a → Meant lock_kind_of a kind b → NameAt text b name j → LocksAt text j ls o →
      LocksAt text i (record { kind = kind; name = name } ∷ ls) o

-- [ "queue" ]: where it stands
pub data QueueAt : Input → Option Position → Input → Type 0 where
  no_queue : {i : Input} → QueueAt i None i
  some_queue : {i o : Input} → Next k.Queue i o → QueueAt i (Some (position i)) o

-- "filter" NAME "altitude" NUMBER { "lock" lock } [ "queue" ] callback { callback }, up to the end of the text
pub data FileAt (text : Text) : Input → Filter → Type 0 where
  file : {i a b c d e l o : Input} {name : Text} {n : ℕ} {ls : List Lock} {q : Option Position} {cs : List Callback} →
      Next k.Filter i a → NameAt text a name b → Next k.Altitude b c → NumberAt c n d → LocksAt text d ls e → QueueAt e q l →
      CallbacksAt (record { text = text; locks = ls; queue = is_some q }) l cs o → kind o ≡ k.End →
      FileAt text i (record { name = name; altitude = n; locks = ls; queue = q; callbacks = cs })
