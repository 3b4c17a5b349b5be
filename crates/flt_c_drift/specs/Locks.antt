-- The locks of a file: the expressions with which annotations declare them, `lock KIND NAME = EXPRESSION`, and the first arguments of the
-- calls of locks in its code. This project's own rule.
use Rattle.std.specs.Prelude.{ℕ, ◌+◌, ◌-◌, Bool, true, false, not, ◌&&◌, ◌||◌, if◌then◌else◌, ◌==◌}
use Rattle.std.specs.Prelude.{nat_lt, List, [], ◌∷◌, ◌++◌, length, map, Option, Some, None}
use Rattle.std.specs.Str.{bytes_eq}
use Rattle.flt_c.specs.Locks.{after, is_expression}
use Rattle.flt_c.specs.declared.letter.Part.{Part}
use Rattle.flt_c.specs.declared.lock.LockLine.{LockLine}
use Rattle.flt_c.specs.declared.lock.LockLine.TheVariants as l
use Rattle.flt_c_drift.specs.Parts.{is_blank, is_code, is_note}
use Rattle.flt_c_drift.specs.Tokens.{Written, is_empty, length_at, none, parted, tokens_of, written, written_in}
use Rattle.flt_c_drift.specs.declared.lock.Argument.{Argument}
use Rattle.flt_c_drift.specs.declared.lock.Argument.TheVariants as argument
use Rattle.flt_c_drift.specs.declared.lock.ExpressionLock.{ExpressionLock}
use Rattle.flt_c_drift.specs.declared.lock.Lock.{Lock}
use Rattle.flt_c_drift.specs.declared.lock.Locks.{Locks}
use Rattle.flt_c_drift.specs.declared.mark.Mark.{Mark}
use Rattle.flt_c_drift.specs.declared.mark.MarkKind.TheVariants as k

-- a lock that an annotation declares with an expression
pub record Declared : Type 0 where
  pub name : List ℕ
  pub tokens : List ℕ
  pub known : ExpressionLock

abbrev pub declared_of : Lock → Declared
declared_of lock = record { name = lock.name.items; tokens = lock.tokens.items; known = lock.known }

-- the declared locks; of an annotation's line how far it declares one, its name and its expression; of code the first argument of a lock's
-- call, its tokens, and how many marks there were before it
pub record LockState : Type 0 where
  pub declared : List Declared
  pub line : LockLine
  pub name : List ℕ
  pub expression : Written
  pub argument : Argument
  pub tokens : Written
  pub before : ℕ

abbrev pub locks_in : Locks → LockState
locks_in r = record {
  declared = map declared_of r.declared.items;
  line = r.line;
  name = r.name.items;
  expression = written_in r.expression;
  argument = r.argument;
  tokens = written_in r.tokens;
  before = r.before;
}

abbrev pub no_locks : LockState
no_locks = record { declared = []; line = l.Nothing; name = []; expression = none; argument = argument.Nothing; tokens = none; before = 0 }

-- ---- declared locks

-- the first lock that is declared with an expression of these tokens
abbrev pub place_of : List Declared → List ℕ → Option ℕ
place_of [] tokens = None
place_of (lock ∷ locks) tokens = if bytes_eq lock.tokens tokens then Some lock.known.lock else place_of locks tokens

-- what is known of the first lock of a name
abbrev pub known_of : List Declared → List ℕ → Option ExpressionLock
known_of [] name = None
known_of (lock ∷ locks) name = if bytes_eq lock.name name then Some lock.known else known_of locks name

-- ---- annotations

-- how far a line declares a lock, after one more letter of the file
abbrev pub line_with : Part → ℕ → LockLine → LockLine
line_with p b line = if is_note p then after line b else l.Nothing

abbrev pub is_letters : LockLine → Bool
is_letters l.Letters = true
is_letters _ = false

abbrev pub or_next : Option ℕ → ℕ → ℕ
or_next None next = next
or_next (Some place) next = place

-- the lock that a line declares, whose expression ends before a place
abbrev pub new_lock : ℕ → LockState → ExpressionLock
new_lock at s = record {
  lock = or_next (place_of s.declared (tokens_of s.expression)) (length s.declared);
  expression = record { start = s.expression.start; length = length_at at s.expression };
}

-- it is declared
abbrev pub added : ℕ → LockState → LockState
added at s = record {
  declared = s.declared ++ (record { name = s.name; tokens = tokens_of s.expression; known = new_lock at s } ∷ []);
  line = s.line;
  name = s.name;
  expression = s.expression;
  argument = s.argument;
  tokens = s.tokens;
  before = s.before;
}

-- there is an expression; a text has eight locks at most
abbrev pub is_new : LockState → Bool
is_new s = nat_lt (length s.declared) 8 && not (is_empty (tokens_of s.expression))

-- a lock is declared where its expression ends
abbrev pub declared_at : ℕ → LockLine → LockState → LockState
declared_at at on s = if is_expression s.line && (not (is_expression on) && is_new s) then added at s else s

-- the name of a lock
abbrev pub name_written : LockLine → ℕ → LockState → LockState
name_written on b s = record {
  declared = s.declared;
  line = s.line;
  name = if is_letters on then (if is_letters s.line then s.name ++ (b ∷ []) else b ∷ []) else s.name;
  expression = s.expression;
  argument = s.argument;
  tokens = s.tokens;
  before = s.before;
}

-- its expression, after the `=`
abbrev pub expression_written : ℕ → LockLine → ℕ → LockState → LockState
expression_written at on b s = record {
  declared = s.declared;
  line = s.line;
  name = s.name;
  expression = if is_expression on then (if is_expression s.line then written at b s.expression else none) else s.expression;
  argument = s.argument;
  tokens = s.tokens;
  before = s.before;
}

abbrev pub lined : LockLine → LockState → LockState
lined on s = record {
  declared = s.declared;
  line = on;
  name = s.name;
  expression = s.expression;
  argument = s.argument;
  tokens = s.tokens;
  before = s.before;
}

-- one letter more of the file, as one of an annotation
abbrev pub noted_by : ℕ → LockLine → ℕ → LockState → LockState
noted_by at on b s = lined on (expression_written at on b (name_written on b (declared_at at on s)))

unfoldable pub noted : ℕ → Part → ℕ → LockState → LockState
noted at p b s = noted_by at (line_with p b s.line) b s

-- ---- code

-- a bracket opens
abbrev pub is_opening : ℕ → Bool
is_opening b = b == 40 || (b == 91 || b == 123)

-- a bracket closes
abbrev pub is_closing : ℕ → Bool
is_closing b = b == 41 || (b == 93 || b == 125)

-- the first argument ends before a `,` or the bracket that closes, where no bracket is open in it
abbrev pub ends : ℕ → ℕ → Bool
ends depth b = depth == 0 && (b == 44 || is_closing b)

-- it begins after the bracket that follows the name of a lock's call
abbrev pub argument_of : ℕ → ℕ → Argument
argument_of call b = if b == 40 then argument.Open call 0 else argument.Nothing

abbrev pub deeper : ℕ → ℕ → Argument
deeper call depth = if nat_lt depth 255 then argument.Open call (depth + 1) else argument.Nothing

abbrev pub argument_within : ℕ → ℕ → ℕ → Argument
argument_within call depth b =
    if ends depth b || b == 59 then argument.Nothing
    else (if is_opening b then deeper call depth else (if is_closing b then argument.Open call (depth - 1) else argument.Open call depth))

abbrev pub argument_after : Argument → ℕ → Argument
argument_after argument.Nothing b = argument.Nothing
argument_after (argument.Called call) b = argument_of call b
argument_after (argument.Open call depth) b = argument_within call depth b

-- one letter more of the file
abbrev pub argument_with : Part → ℕ → Argument → Argument
argument_with p b arg = if is_code p && not (is_blank b) then argument_after arg b else arg

abbrev pub begins : Argument → Argument → Bool
begins (argument.Called call) (argument.Open other depth) = true
begins old new = false

abbrev pub is_open : Argument → Bool
is_open (argument.Open call depth) = true
is_open _ = false

-- a word of code is a lock's call, or isn't
abbrev pub called : Option ℕ → LockState → LockState
called None s = s
called (Some call) s = record {
  declared = s.declared;
  line = s.line;
  name = s.name;
  expression = s.expression;
  argument = argument.Called call;
  tokens = s.tokens;
  before = s.before;
}

-- the argument has tokens, and no mark stands in it
abbrev pub is_whole : ℕ → LockState → Bool
is_whole marks s = s.before == marks && not (is_empty (tokens_of s.tokens))

-- the mark of an argument of a call that ends before a place
abbrev pub taken_mark : ℕ → ℕ → LockState → Mark
taken_mark at call s = record {
  kind = k.Takes (record { call = call; lock = place_of s.declared (tokens_of s.tokens) });
  start = s.tokens.start;
  length = length_at at s.tokens;
}

abbrev pub taken_by : ℕ → Part → ℕ → ℕ → LockState → Argument → Option Mark
taken_by at p b marks s (argument.Open call depth) =
    if is_code p && (ends depth b && is_whole marks s) then Some (taken_mark at call s) else None
taken_by at p b marks s _ = None

-- the mark of an argument that ends before a letter, where there are so many marks
abbrev pub taken : ℕ → Part → ℕ → ℕ → LockState → Option Mark
taken at p b marks s = taken_by at p b marks s s.argument

-- a letter of the argument
abbrev pub argument_written : ℕ → Part → ℕ → LockState → LockState
argument_written at p b s = record {
  declared = s.declared;
  line = s.line;
  name = s.name;
  expression = s.expression;
  argument = s.argument;
  tokens = if is_open s.argument then (if is_code p then written at b s.tokens else parted at s.tokens) else s.tokens;
  before = s.before;
}

-- the argument goes on, ends or begins
abbrev pub gone_on : Argument → ℕ → LockState → LockState
gone_on arg marks s = record {
  declared = s.declared;
  line = s.line;
  name = s.name;
  expression = s.expression;
  argument = arg;
  tokens = if begins s.argument arg then none else s.tokens;
  before = if begins s.argument arg then marks else s.before;
}

-- one letter more of the file, as one of code
unfoldable pub coded : ℕ → Part → ℕ → ℕ → LockState → LockState
coded at p b marks s = gone_on (argument_with p b s.argument) marks (argument_written at p b s)

-- one letter more of the file
abbrev pub read : ℕ → Part → ℕ → ℕ → LockState → LockState
read at p b marks s = coded at p b marks (noted at p b s)

-- ---- letters that aren't about locks

abbrev pub is_no_argument : Argument → Bool
is_no_argument argument.Nothing = true
is_no_argument _ = false

abbrev pub is_nothing : LockLine → Bool
is_nothing l.Nothing = true
is_nothing _ = false

abbrev pub is_other : LockLine → Bool
is_other l.Other = true
is_other _ = false

-- a line declares a lock as far as before, after one more letter of the file
abbrev pub is_same_line : Part → ℕ → LockLine → Bool
is_same_line p b line = if is_note p then is_other line && not (b == 10) else is_nothing line

-- a letter is no part of a lock's declaration or of an argument
abbrev pub is_still : Part → ℕ → LockState → Bool
is_still p b s = is_no_argument s.argument && is_same_line p b s.line

-- ---- locks that annotations take and release

abbrev pub guard_by : Option ExpressionLock → ℕ → List ℕ → ℕ → Mark
guard_by (Some it) call name at =
    record { kind = k.Guards (record { call = call; lock = Some it.lock }); start = it.expression.start; length = it.expression.length }
guard_by None call name at = record { kind = k.Guards (record { call = call; lock = None }); start = at; length = length name }

-- a call with the lock of a name, which begins at a place; the mark has the bytes of its expression, if it has one
abbrev pub guard : LockState → ℕ → List ℕ → ℕ → Mark
guard s call name at = guard_by (known_of s.declared name) call name at
