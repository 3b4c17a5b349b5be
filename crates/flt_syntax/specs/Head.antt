-- How the heads of callbacks are read.
use Rattle.std.specs.Prelude.{Bool, false, if◌then◌else◌, nat_lt, List, length, Option, Some, None, option_map, Ok, Err}
use Rattle.flt_rules.specs.declared.place.Operation.{Operation}
use Rattle.flt_syntax.specs.Cursor.{Input, Parser, and_then, ◌>>=◌, ◌>>◌, pure, ◌<$>◌, kind, next}
use Rattle.flt_syntax.specs.Cursor.{refusal, refuse, fault_at, fail, peek, take_token, known_or}
use Rattle.flt_tree.specs.Declarations.{has_event, has_routine}
use Rattle.flt_rules.specs.Limits.{max_callbacks}
use Rattle.flt_tree.specs.Names.{Text}
use Rattle.flt_syntax.specs.Scope.{spelled}
use Rattle.flt_syntax.specs.declared.fault.FaultKind.TheVariants.{E05, E06}
use Rattle.flt_syntax.specs.declared.fault.SyntaxFault.{SyntaxFault}
use Rattle.flt_tree.specs.declared.filter.Callback.{Callback}
use Rattle.flt_tree.specs.declared.filter.Head.{Head}
use Rattle.flt_tree.specs.declared.filter.Head.TheVariants.{Pre, Post, Canceled, DeferredPre, DeferredPost, Generic}
use Rattle.flt_syntax.specs.declared.token.Kind.{Kind}
use Rattle.flt_syntax.specs.declared.token.Kind.TheVariants as k
pub use Rattle.flt_syntax.specs.FirstWords.{begins_head}
pub use Rattle.flt_syntax.specs.Operations.{operation_of}

-- OP
unfoldable pub operation : Parser Operation
operation = λ i. known_or (refusal i) (operation_of (kind i)) i

-- ---- heads

-- "pre" OP | "post" OP | "canceled", by the first word
abbrev pub event_by : Kind → Parser Head
event_by k.Pre = take_token >> Pre <$> operation
event_by k.Post = take_token >> Post <$> operation
event_by k.Canceled = take_token >> pure Canceled
event_by _ = refuse

-- "pre" OP | "post" OP | "canceled"
unfoldable pub event : Parser Head
event = peek >>= event_by

-- an event of which there is none among the callbacks before; a second one is reported at its first word
unfoldable pub new_event : List Callback → Parser Head
new_event found = λ i. and_then (event i) (λ q. if has_event q.0 found then fail E05 i else Ok q)

-- NAME of a routine, reported where one before has it
abbrev pub new_name : Text → List Callback → Parser Text
new_name text found = λ i. and_then (spelled text i) (λ q. if has_routine q.0 found then fail E05 i else Ok q)

-- ("deferred_pre" | "deferred_post" | "generic") NAME
unfoldable pub new_routine : Text → List Callback → Parser Text
new_routine text found = take_token >> new_name text found

-- head, by its first word
abbrev pub new_head_by : Text → List Callback → Kind → Parser Head
new_head_by text found k.DeferredPre = DeferredPre <$> new_routine text found
new_head_by text found k.DeferredPost = DeferredPost <$> new_routine text found
new_head_by text found k.Generic = Generic <$> new_routine text found
new_head_by text found _ = new_event found

-- a head that none of the callbacks before has
unfoldable pub new_head : Text → List Callback → Parser Head
new_head text found = peek >>= new_head_by text found

-- ---- a head too many

-- the event that two words name
abbrev pub event_of : Kind → Kind → Option Head
event_of k.Pre second = option_map Pre (operation_of second)
event_of k.Post second = option_map Post (operation_of second)
event_of k.Canceled second = Some Canceled
event_of _ second = None

-- whether there is an event, and one of the callbacks is for it
abbrev pub is_among : Option Head → List Callback → Bool
is_among None found = false
is_among (Some head) found = has_event head found

-- whether two words name an event that one of the callbacks is for
abbrev pub is_taken : Kind → Kind → List Callback → Bool
is_taken first second = is_among (event_of first second)

-- why no head is read behind callbacks enough: an event a second time comes before the limit, at the same word
unfoldable pub crowded : List Callback → Input → SyntaxFault
crowded found i =
    if begins_head (kind i) then fault_at (if is_taken (kind i) (kind (next i)) found then E05 else E06) i else refusal i

-- head, behind the callbacks that were found
unfoldable pub head : Text → List Callback → Parser Head
head text found = λ i. if nat_lt (length found) max_callbacks then new_head text found i else Err (crowded found i)
