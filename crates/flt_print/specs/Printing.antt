-- The canonical text of a filter: one statement a line, two blanks a level, one blank between words, `else` only where it
-- has statements, no comment. This project's own rule.
use Rattle.std.specs.Prelude.{ℕ, ◌+◌, List, [], ◌∷◌, ◌++◌, map, flat_map, decimal, is_some, Bool, true, false}
use Rattle.flt_print.specs.ActionWords.{action_words, condition_words}
use Rattle.flt_print.specs.CallWords.{plain_words, optional_status_words}
use Rattle.flt_tree.specs.Names.{Text}
use Rattle.flt_print.specs.Line.{Line, line, lines_text}
use Rattle.flt_print.specs.Vocabulary.{spelling, operation_kind, lock_kind_kind}
use Rattle.flt_tree.specs.declared.filter.Callback.{Callback}
use Rattle.flt_tree.specs.declared.filter.Condition.{Condition}
use Rattle.flt_tree.specs.declared.filter.Filter.{Filter}
use Rattle.flt_tree.specs.declared.filter.Head.{Head}
use Rattle.flt_tree.specs.declared.filter.Head.TheVariants.{Pre, Post, Canceled, DeferredPre, DeferredPost, Generic}
use Rattle.flt_tree.specs.declared.filter.Lock.{Lock}
use Rattle.flt_tree.specs.declared.filter.Statement.{Statement}
use Rattle.flt_tree.specs.declared.filter.Statement.TheOpen.{Statement-F}
use Rattle.flt_tree.specs.declared.filter.Statement.TheFolds.{fold-Statement}
use Rattle.flt_syntax.specs.declared.token.Kind.TheVariants as k

-- ---- statements

-- lines that stand at some level
abbrev pub Lines : Type 0
Lines = ℕ → List Line

-- statements, one behind the other
abbrev pub in_turn : List Lines → Lines
in_turn statements level = flat_map (λ s. s level) statements

-- the statements of a block, one level deeper
abbrev pub inside : List Lines → Lines
inside statements level = in_turn statements (level + 1)

-- the brace that ends a block
abbrev pub closing : Lines
closing level = line level (spelling k.CloseBrace ∷ []) ∷ []

-- what an `if` begins with
abbrev pub if_line : ℕ → Condition → Line
if_line level condition = line level (spelling k.If ∷ condition_words condition ++ spelling k.OpenBrace ∷ [])

-- what stands between its blocks
abbrev pub else_line : ℕ → Line
else_line level = line level (spelling k.CloseBrace ∷ spelling k.Else ∷ spelling k.OpenBrace ∷ [])

-- its end: a second block only where it has statements
abbrev pub otherwise : List Lines → Lines
otherwise [] level = closing level
otherwise (s ∷ ss) level = else_line level ∷ (inside (s ∷ ss) level ++ closing level)

-- what a `repeat` begins with
abbrev pub repeat_line : ℕ → ℕ → Line
repeat_line level turns = line level (spelling k.Repeat ∷ decimal turns ∷ spelling k.OpenBrace ∷ [])

-- a statement, given the lines of those inside
abbrev pub lines_step : List Lock → Statement-F Lines → Lines
lines_step locks (Statement-F.Act at action) level = line level (action_words action) ∷ []
lines_step locks (Statement-F.Call at call) level = line level (plain_words locks call) ∷ []
lines_step locks (Statement-F.Return at status) level = line level (spelling k.Return ∷ optional_status_words status) ∷ []
lines_step locks (Statement-F.If at condition granted refused) level =
    if_line level condition ∷ (inside granted level ++ otherwise refused level)
lines_step locks (Statement-F.Repeat at turns body) level = repeat_line level turns ∷ (inside body level ++ closing level)

-- a statement
abbrev pub statement_lines : List Lock → Statement → Lines
statement_lines locks = fold-Statement Lines (lines_step locks)

-- statements
abbrev pub body_lines : List Lock → List Statement → Lines
body_lines locks body = in_turn (map (statement_lines locks) body)

-- ---- callbacks and filters

-- what a callback is registered for
abbrev pub head_words : Head → List Text
head_words (Pre op) = spelling k.Pre ∷ spelling (operation_kind op) ∷ []
head_words (Post op) = spelling k.Post ∷ spelling (operation_kind op) ∷ []
head_words Canceled = spelling k.Canceled ∷ []
head_words (DeferredPre name) = spelling k.DeferredPre ∷ name ∷ []
head_words (DeferredPost name) = spelling k.DeferredPost ∷ name ∷ []
head_words (Generic name) = spelling k.Generic ∷ name ∷ []

-- what a callback begins with
abbrev pub head_line : Head → Line
head_line head = line 0 (head_words head ++ spelling k.OpenBrace ∷ [])

-- a callback
abbrev pub callback_lines : List Lock → Callback → List Line
callback_lines locks c = head_line c.head ∷ (body_lines locks c.body 1 ++ closing 0)

-- a declared lock
abbrev pub lock_line : Lock → Line
lock_line l = line 0 (spelling k.Lock ∷ spelling (lock_kind_kind l.kind) ∷ l.name ∷ [])

-- the queue, if there is one
abbrev pub queue_lines : Bool → List Line
queue_lines true = line 0 (spelling k.Queue ∷ []) ∷ []
queue_lines false = []

-- what a filter begins with
abbrev pub name_line : Filter → Line
name_line f = line 0 (spelling k.Filter ∷ f.name ∷ spelling k.Altitude ∷ decimal f.altitude ∷ [])

-- a filter
abbrev pub filter_lines : Filter → List Line
filter_lines f =
    name_line f ∷ (map lock_line f.locks ++ (queue_lines (is_some f.queue) ++ flat_map (callback_lines f.locks) f.callbacks))

-- the canonical text
unfoldable pub canonical_text : Filter → Text
canonical_text f = lines_text (filter_lines f)
