-- Lines of annotations that declare a lock by its expression in C, `lock KIND NAME = EXPRESSION`. The text has the expression as
-- blanks. This project's own rule.
use Rattle.std.specs.Prelude.{ℕ, ◌+◌, Bool, true, false, ◌||◌, if◌then◌else◌, ◌==◌, List, [], ◌∷◌, length, slice_index, nat_lt, codes}
use Rattle.std.specs.Char.{is_ascii_alphanumeric}
use Rattle.flt_c.specs.declared.lock.LockLine.{LockLine}
use Rattle.flt_c.specs.declared.lock.LockLine.TheVariants as l
use Rattle.flt_c.specs.declared.lock.LockWord.{LockWord}
use Rattle.flt_c.specs.declared.lock.LockWord.TheVariants as w
use Rattle.flt_c.specs.Modes.{is_blank}

-- the letters of a word
abbrev pub letters : LockWord → List ℕ
letters w.Lock = codes "lock"
letters w.Spin = codes "spin"
letters w.Fast = codes "fast"
letters w.Push = codes "push"

-- after `lock` comes a kind, after a kind a name
abbrev pub after_word : LockWord → LockLine
after_word w.Lock = l.Kind
after_word _ = l.Name

-- the next letter of a word, of which so many are read, or the blank after it
abbrev pub in_word : LockWord → ℕ → ℕ → LockLine
in_word word read b =
    if nat_lt read (length (letters word)) then (if slice_index (letters word) read == b then l.Word word (read + 1) else l.Other)
    else (if is_blank b then after_word word else l.Other)

-- the first letter of a kind
abbrev pub begun_kind : ℕ → LockLine
begun_kind b = if b == 115 then l.Word w.Spin 1 else (if b == 102 then l.Word w.Fast 1 else (if b == 112 then l.Word w.Push 1 else l.Other))

-- letters, digits and `_`
abbrev pub is_of_name : ℕ → Bool
is_of_name b = is_ascii_alphanumeric b || b == 95

abbrev pub in_name : ℕ → LockLine
in_name b = if is_of_name b then l.Letters else l.Other

-- `=`, after blanks
abbrev pub at_equals : ℕ → LockLine
at_equals b = if is_blank b then l.Equals else (if b == 61 then l.Expression else l.Other)

-- one byte more of a line; a remark ends the expression
abbrev pub within : LockLine → ℕ → LockLine
within l.Nothing b = if is_blank b then l.Nothing else in_word w.Lock 0 b
within (l.Word word read) b = in_word word read b
within l.Kind b = if is_blank b then l.Kind else begun_kind b
within l.Name b = if is_blank b then l.Name else in_name b
within l.Letters b = if is_of_name b then l.Letters else at_equals b
within l.Equals b = at_equals b
within l.Expression b = if b == 35 then l.Other else l.Expression
within l.Other b = l.Other

-- one byte more of an annotation
abbrev pub after : LockLine → ℕ → LockLine
after line b = if b == 10 then l.Nothing else within line b

-- the last byte is the `=` or belongs to the expression
abbrev pub is_expression : LockLine → Bool
is_expression l.Expression = true
is_expression _ = false

-- a byte after which this is read: a blank in an expression
abbrev pub plain_byte : LockLine → ℕ → ℕ
plain_byte line b = if is_expression line then 32 else b

-- bytes of a text, before which this is read of their line, with blanks for expressions
abbrev pub plain_from : LockLine → List ℕ → List ℕ
plain_from line [] = []
plain_from line (b ∷ z) = let on = after line b in plain_byte on b ∷ plain_from on z

-- a text with blanks for the expressions of locks
abbrev pub plain : List ℕ → List ℕ
plain text = plain_from l.Nothing text

-- a line declares no lock
abbrev pub is_other : LockLine → Bool
is_other l.Other = true
is_other _ = false
