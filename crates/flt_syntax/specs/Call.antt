-- How calls are read: the word says the shape, and the shape which slots are read behind it, and what ends the call.
use Rattle.std.specs.Prelude.{if◌then◌else◌, List, [], ◌∷◌, Option, Some, None}
use Rattle.flt_rules.specs.declared.call.Existing.{Existing}
use Rattle.flt_syntax.specs.Cursor.{Parser, ◌>>=◌, ◌>>◌, pure, ◌<$>◌, kind, refusal, refuse, fail, take_token, known_or, given, eat, expect}
use Rattle.flt_syntax.specs.Operand.{context_variable, removed_variable, operation_variable, other_context, with_context}
use Rattle.flt_syntax.specs.Scope.{Scope, lock_named, routine}
use Rattle.flt_syntax.specs.Shape.{unfilled, fallible_slots, fallible_tail, fallible_of, is_known, plain_slots, plain_tail, plain_of}
use Rattle.flt_syntax.specs.Status.{status}
use Rattle.flt_tree.specs.declared.filter.FallibleCall.{FallibleCall}
use Rattle.flt_tree.specs.declared.filter.PlainCall.{PlainCall}
use Rattle.flt_tree.specs.declared.filter.Routine.{Routine}
use Rattle.flt_syntax.specs.declared.fault.FaultKind.TheVariants.{E04}
use Rattle.flt_syntax.specs.declared.shape.FallibleShape.{FallibleShape}
use Rattle.flt_syntax.specs.declared.shape.Operands.{Operands}
use Rattle.flt_syntax.specs.declared.shape.PlainShape.{PlainShape}
use Rattle.flt_syntax.specs.declared.shape.Slot.{Slot}
use Rattle.flt_syntax.specs.declared.shape.Slot.TheVariants as part
use Rattle.flt_syntax.specs.declared.shape.Tail.{Tail}
use Rattle.flt_syntax.specs.declared.shape.Tail.TheVariants as last
use Rattle.flt_syntax.specs.declared.token.Kind.TheVariants as k
use Rattle.flt_tree.specs.declared.variable.ContextVariable.{ContextVariable}
pub use Rattle.flt_syntax.specs.Tables.{existing_of, fallible_shape_of, plain_shape_of}

-- ---- parts of calls

-- "KEEP_IF_EXISTS" | "REPLACE_IF_EXISTS"
unfoldable pub existing : Parser Existing
existing = λ i. known_or (refusal i) (existing_of (kind i)) i

-- [ "old" C ]
unfoldable pub old : Parser (Option ContextVariable)
old = do
  found ← eat k.Old
  if found then Some <$> context_variable else pure None

-- [ "old" C ] in a call that has a context already
unfoldable pub other_old : ContextVariable → Parser (Option ContextVariable)
other_old first = do
  found ← eat k.Old
  if found then Some <$> other_context first else pure None

-- ---- slots

-- a slot, which is put into the operands
abbrev pub slot : Scope → Slot → Operands → Parser Operands
slot scope part.Data x = expect k.Data >> pure x
slot scope part.As x = expect k.As >> pure x
slot scope part.With x = expect k.Context >> pure x
slot scope part.Operation x = (λ d. record x { operation = d }) <$> operation_variable
slot scope part.Removed x = (λ o. record x { removed = o }) <$> removed_variable
slot scope part.Existing x = (λ e. record x { existing = e }) <$> existing
slot scope part.Context x = (λ c. record x { context = c }) <$> context_variable
slot scope part.Other x = (λ d. record x { other = d }) <$> other_context x.context
slot scope part.Routine x = (λ r. record x { routine = r }) <$> routine scope
slot scope (part.Lock kind) x = (λ l. record x { lock = l }) <$> lock_named scope kind

-- one slot after the other
abbrev pub slots : Scope → List Slot → Operands → Parser Operands
slots scope [] x = pure x
slots scope (s ∷ ss) x = slot scope s x >>= slots scope ss

-- what ends a call
abbrev pub tail : Tail → Operands → Parser Operands
tail last.Nothing x = pure x
tail last.With x = (λ c. record x { optional = c }) <$> with_context
tail last.Old x = (λ c. record x { optional = c }) <$> old
tail last.OtherOld x = (λ c. record x { optional = c }) <$> other_old x.context
tail last.Status x = (λ s. record x { status = s }) <$> status

-- the word of a call, and its operands
unfoldable pub operands : Scope → List Slot → Tail → Parser Operands
operands scope ss t = take_token >> slots scope ss unfilled >>= tail t

-- ---- calls

-- fallible, by its shape
abbrev pub fallible_by : Scope → FallibleShape → Parser (FallibleCall Routine)
fallible_by scope s = λ i.
    if is_known scope.queue s then (fallible_of s <$> operands scope (fallible_slots s) (fallible_tail s)) i else fail E04 i

-- fallible
unfoldable pub fallible_call : Scope → Parser (FallibleCall Routine)
fallible_call scope = λ i. given (fallible_shape_of (kind i)) (fallible_by scope) refuse i

-- plain, by its shape
abbrev pub plain_by : Scope → PlainShape → Parser PlainCall
plain_by scope s = plain_of s <$> operands scope (plain_slots s) (plain_tail s)

-- plain
unfoldable pub plain_call : Scope → Parser PlainCall
plain_call scope = λ i. given (plain_shape_of (kind i)) (plain_by scope) refuse i
