-- Places, and what statuses and heads of callbacks say. Source: FLT_PREOP_CALLBACK_STATUS and FLT_POSTOP_CALLBACK_STATUS in the driver kit;
-- places are this project's own.
use Rattle.std.specs.Prelude.{ℕ, Bool, true, false, List, Option, Some, None}
use Rattle.std.specs.Str.{bytes_eq}
use Rattle.flt_rules.specs.declared.place.Place.{Place}
use Rattle.flt_rules.specs.declared.place.Place.TheVariants as place
use Rattle.flt_rules.specs.declared.status.FinalStatus.TheVariants as final
use Rattle.flt_rules.specs.declared.status.StatusWord.{StatusWord}
use Rattle.flt_rules.specs.declared.status.StatusWord.TheVariants as word
use Rattle.flt_tree.specs.declared.filter.Head.{Head}
use Rattle.flt_tree.specs.declared.filter.Head.TheVariants as head
use Rattle.flt_tree.specs.declared.filter.Span.{Span}
use Rattle.flt_tree.specs.declared.filter.Statement.{Statement}
use Rattle.flt_tree.specs.declared.filter.Statement.TheOpen.{Statement-F}
use Rattle.flt_tree.specs.declared.filter.Status.{Status}
use Rattle.flt_tree.specs.declared.filter.Status.TheVariants as status
use Rattle.flt_tree.specs.declared.variable.ContextVariable.{ContextVariable}

-- ---- places

-- nowhere
abbrev pub no_span : Span
no_span = record { line = 0; start = 0; end = 0 }

-- where a statement stands
abbrev pub span_of : Statement-F Statement → Span
span_of (Statement-F.Act span action) = span
span_of (Statement-F.Call span call) = span
span_of (Statement-F.Return span status) = span
span_of (Statement-F.If span condition granted refused) = span
span_of (Statement-F.Repeat span turns body) = span

-- ---- statuses

-- the word of a status, as the table has it
abbrev pub word_of : Status → StatusWord
word_of (status.WithCallback c) = word.WithCallback
word_of (status.Synchronize c) = word.Synchronize
word_of status.NoCallback = word.NoCallback
word_of (status.Complete f) = word.Complete
word_of status.Pending = word.Pending
word_of status.DisallowFastIo = word.DisallowFastIo
word_of status.FinishedProcessing = word.FinishedProcessing
word_of status.MoreProcessingRequired = word.MoreProcessingRequired

-- COMPLETE STATUS_PENDING can be written and is never legal
abbrev pub completes_pending : Status → Bool
completes_pending (status.Complete final.Pending) = true
completes_pending _ = false

-- the completion context that a status names
abbrev pub context_of : Status → Option ContextVariable
context_of (status.WithCallback c) = c
context_of (status.Synchronize c) = c
context_of _ = None

-- the same of a status that may be missing
abbrev pub named_context : Option Status → Option ContextVariable
named_context (Some st) = context_of st
named_context None = None

-- ---- heads

-- where a callback runs, by its head
abbrev pub head_place : Head → Place
head_place (head.Pre kind) = place.Pre kind
head_place (head.Post kind) = place.Post kind
head_place head.Canceled = place.Canceled
head_place (head.DeferredPre name) = place.DeferredPre
head_place (head.DeferredPost name) = place.DeferredPost
head_place (head.Generic name) = place.Generic

-- whether a head is that of the routine of a name
abbrev pub is_named : List ℕ → Head → Bool
is_named name (head.DeferredPre routine) = bytes_eq routine name
is_named name (head.DeferredPost routine) = bytes_eq routine name
is_named name (head.Generic routine) = bytes_eq routine name
is_named name _ = false
