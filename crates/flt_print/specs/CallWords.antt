-- The words of statuses and calls, in the order of the grammar. The words of a call are its own, those of the slots of its shape, and what
-- ends it.
use Rattle.std.specs.Prelude.{List, [], ◌∷◌, ◌++◌, map, Option, Some, None}
use Rattle.flt_print.specs.Operands.{Operands, fallible_shape, fallible_operands, plain_shape, plain_operands}
use Rattle.flt_print.specs.Vocabulary.{spelling, context_kind, removed_kind, operation_variable_kind, final_status_kind, existing_kind}
use Rattle.flt_print.specs.Vocabulary.{fallible_kind, plain_kind}
use Rattle.flt_syntax.specs.Shape.{fallible_slots, fallible_tail, plain_slots, plain_tail}
use Rattle.flt_tree.specs.Names.{Text}
use Rattle.flt_syntax.specs.declared.shape.Slot.{Slot}
use Rattle.flt_syntax.specs.declared.shape.Slot.TheVariants as part
use Rattle.flt_syntax.specs.declared.shape.Tail.{Tail}
use Rattle.flt_syntax.specs.declared.shape.Tail.TheVariants as last
use Rattle.flt_syntax.specs.declared.token.Kind.{Kind}
use Rattle.flt_syntax.specs.declared.token.Kind.TheVariants as k
use Rattle.flt_tree.specs.declared.filter.FallibleCall.{FallibleCall}
use Rattle.flt_tree.specs.declared.filter.Lock.{Lock}
use Rattle.flt_tree.specs.declared.filter.PlainCall.{PlainCall}
use Rattle.flt_tree.specs.declared.filter.Routine.{Routine}
use Rattle.flt_tree.specs.declared.filter.Status.{Status}
use Rattle.flt_tree.specs.declared.filter.Status.TheVariants as statuses
use Rattle.flt_tree.specs.declared.variable.ContextVariable.{ContextVariable}

-- nothing, or a word and the context behind it
abbrev pub optional_words : Kind → Option ContextVariable → List Text
optional_words word None = []
optional_words word (Some c) = spelling word ∷ spelling (context_kind c) ∷ []

-- a status
abbrev pub status_words : Status → List Text
status_words (statuses.WithCallback c) = spelling k.WithCallback ∷ optional_words k.Context c
status_words (statuses.Synchronize c) = spelling k.Synchronize ∷ optional_words k.Context c
status_words statuses.NoCallback = spelling k.NoCallback ∷ []
status_words (statuses.Complete s) = spelling k.Complete ∷ spelling (final_status_kind s) ∷ []
status_words statuses.Pending = spelling k.Pending ∷ []
status_words statuses.DisallowFastIo = spelling k.DisallowFastIo ∷ []
status_words statuses.FinishedProcessing = spelling k.FinishedProcessing ∷ []
status_words statuses.MoreProcessingRequired = spelling k.MoreProcessingRequired ∷ []

-- nothing, or a status
abbrev pub optional_status_words : Option Status → List Text
optional_status_words None = []
optional_status_words (Some s) = status_words s

-- ---- calls

-- a slot
abbrev pub slot_word : Operands → Slot → Text
slot_word x part.Data = spelling k.Data
slot_word x part.As = spelling k.As
slot_word x part.With = spelling k.Context
slot_word x part.Operation = spelling (operation_variable_kind x.operation)
slot_word x part.Removed = spelling (removed_kind x.removed)
slot_word x part.Existing = spelling (existing_kind x.existing)
slot_word x part.Context = spelling (context_kind x.context)
slot_word x part.Other = spelling (context_kind x.other)
slot_word x part.Routine = x.name
slot_word x (part.Lock kind) = x.name

-- what ends a call
abbrev pub tail_words : Operands → Tail → List Text
tail_words x last.Nothing = []
tail_words x last.With = optional_words k.Context x.optional
tail_words x last.Old = optional_words k.Old x.optional
tail_words x last.OtherOld = optional_words k.Old x.optional
tail_words x last.Status = status_words x.status

-- the slots, and what ends the call
abbrev pub operand_words : Operands → List Slot → Tail → List Text
operand_words x slots tail = map (slot_word x) slots ++ tail_words x tail

-- a call that can fail
abbrev pub fallible_words : FallibleCall Routine → List Text
fallible_words c =
    let s = fallible_shape c in
    spelling (fallible_kind s) ∷ operand_words (fallible_operands c) (fallible_slots s) (fallible_tail s)

-- a call that always succeeds
abbrev pub plain_words : List Lock → PlainCall → List Text
plain_words locks c =
    let s = plain_shape c in
    spelling (plain_kind s) ∷ operand_words (plain_operands locks c) (plain_slots s) (plain_tail s)
