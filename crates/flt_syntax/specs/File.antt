-- How a whole text is read.
use Rattle.std.specs.Prelude.{◌≡◌, ℕ, zero, suc, ◌-◌, if◌then◌else◌, nat_lt, List, [], ◌∷◌}
use Rattle.std.specs.Prelude.{◌++◌, length, is_some, Option, Some, None, Result, Ok, Err}
use Rattle.flt_rules.specs.declared.call.LockKind.{LockKind}
use Rattle.flt_syntax.specs.Cursor.{Outcome, Parser, ◌>>=◌, ◌>>◌, pure, kind, position, span, place, here}
use Rattle.flt_syntax.specs.Cursor.{refusal, refuse, fault, known_or, sees, eat, expect, number_within}
use Rattle.flt_syntax.specs.Head.{head}
use Rattle.flt_tree.specs.Declarations.{has_lock}
use Rattle.flt_rules.specs.Limits.{max_text, max_altitude, max_locks, max_depth, max_repeats}
use Rattle.flt_tree.specs.Names.{Text}
use Rattle.flt_syntax.specs.Lex.{tokens}
use Rattle.flt_tree.specs.Measures.{is_small}
use Rattle.flt_syntax.specs.Scope.{Scope, spelled}
use Rattle.flt_syntax.specs.Statement.{statements, block}
use Rattle.flt_syntax.specs.Whole.{whole_fault}
use Rattle.flt_syntax.specs.declared.fault.FaultKind.TheVariants.{E05, E06}
use Rattle.flt_syntax.specs.declared.fault.ParseError.{ParseError}
use Rattle.flt_syntax.specs.declared.fault.ParseError.TheVariants.{Syntax, OutOfMemory}
use Rattle.flt_syntax.specs.declared.fault.SyntaxFault.{SyntaxFault}
use Rattle.flt_tree.specs.declared.filter.Callback.{Callback}
use Rattle.flt_tree.specs.declared.filter.Filter.{Filter}
use Rattle.flt_tree.specs.declared.filter.Lock.{Lock}
use Rattle.flt_tree.specs.declared.filter.Position.{Position}
use Rattle.flt_syntax.specs.declared.token.Kind.TheVariants as k
pub use Rattle.flt_syntax.specs.Tables.{lock_kind_of}

-- ---- locks

-- "spin" | "fast" | "push"
unfoldable pub lock_kind : Parser LockKind
lock_kind = λ i. known_or (refusal i) (lock_kind_of (kind i)) i

-- a lock behind those before, unless its name, which stands at a place, is used or they are enough
abbrev pub new_lock : List Lock → LockKind → Text → Position → Parser Lock
new_lock found kind name at = λ i.
    if has_lock name found then Err (fault E05 at)
    else (if nat_lt (length found) max_locks then Ok (record { kind = kind; name = name }, i) else Err (fault E06 at))

-- ("spin" | "fast" | "push") NAME, behind the locks that were found
unfoldable pub lock : Text → List Lock → Parser Lock
lock text found = do
  kind ← lock_kind
  at ← place
  name ← spelled text
  new_lock found kind name at

-- { "lock" lock } behind the locks that were found; the number bounds the turns
unfoldable pub locks_from : Text → ℕ → List Lock → Parser (List Lock)
locks_from text zero found = refuse
locks_from text (suc n) found = do
  more ← eat k.Lock
  if more then (do l ← lock text found; locks_from text n (found ++ l ∷ [])) else pure found

-- { "lock" lock }
unfoldable pub locks : Text → Parser (List Lock)
locks text = λ i. locks_from text (length i) [] i

-- [ "queue" ]: where it stands
unfoldable pub queue : Parser (Option Position)
queue = do
  at ← place
  found ← eat k.Queue
  pure (if found then Some at else None)

-- ---- callbacks

-- a callback that is within the limits on points and cost, else a fault at its first word
abbrev pub measured : Position → Callback → Parser Callback
measured at c = λ i. if is_small c then Ok (c, i) else Err (fault E06 at)

-- head block, behind the callbacks that were found
unfoldable pub callback : Scope → List Callback → Parser Callback
callback scope found = do
  from ← here
  h ← head scope.text found
  to ← here
  expect k.OpenBrace
  body ← statements scope (block scope (max_depth - 1)) max_repeats
  brace ← here
  expect k.CloseBrace
  end ← here
  measured (position from) (record {
    head = h;
    position = position from;
    span = span from to;
    body = body;
    end = span brace end;
  })

-- callback { callback } behind the callbacks that were found; the number bounds the turns
unfoldable pub callbacks_from : Scope → ℕ → List Callback → Parser (List Callback)
callbacks_from scope zero found = refuse
callbacks_from scope (suc n) found = do
  c ← callback scope found
  λ i. if sees k.End i then Ok (found ++ c ∷ [], i) else callbacks_from scope n (found ++ c ∷ []) i

-- callback { callback }
unfoldable pub callbacks : Scope → Parser (List Callback)
callbacks scope = λ i. callbacks_from scope (length i) [] i

-- ---- the text

-- "filter" NAME "altitude" NUMBER { "lock" lock } [ "queue" ] callback { callback }
unfoldable pub file : Text → Parser Filter
file text = do
  expect k.Filter
  name ← spelled text
  expect k.Altitude
  n ← number_within 1 max_altitude
  ls ← locks text
  q ← queue
  cs ← callbacks (record { text = text; locks = ls; queue = is_some q })
  pure (record { name = name; altitude = n; locks = ls; queue = q; callbacks = cs })

-- the filter, unless there is a fault
abbrev pub unless_fault : Filter → Option SyntaxFault → Result Filter SyntaxFault
unless_fault f None = Ok f
unless_fault f (Some e) = Err e

-- what was read, tested as a whole
abbrev pub whole : Outcome Filter → Result Filter SyntaxFault
whole (Ok p) = unless_fault p.0 (whole_fault p.0)
whole (Err e) = Err e

-- the filter that a text spells, or its first fault
unfoldable pub filter_of : Text → Result Filter SyntaxFault
filter_of text =
    if nat_lt max_text (length text) then Err (record { line = 1; column = 1; kind = E06 }) else whole (file text (tokens text))

-- an error is the fault, unless memory ran out
abbrev pub IsFaultOf : {A : Type 0} → Result A SyntaxFault → ParseError → Type 0
IsFaultOf outcome OutOfMemory = Unit {0}
IsFaultOf outcome (Syntax f) = outcome ≡ Err f
