-- How callback statuses are read.
use Rattle.std.specs.Prelude.{if◌then◌else◌, Option, Some, None, Ok}
use Rattle.flt_rules.specs.declared.status.FinalStatus.{FinalStatus}
use Rattle.flt_syntax.specs.Cursor.{Parser, ◌>>=◌, ◌>>◌, ◌<$>◌, kind, refusal, peek, take_token, known_or}
use Rattle.flt_syntax.specs.Operand.{with_context}
use Rattle.flt_tree.specs.declared.filter.Status.{Status}
use Rattle.flt_tree.specs.declared.filter.Status.TheVariants as statuses
use Rattle.flt_syntax.specs.declared.token.Kind.{Kind}
use Rattle.flt_syntax.specs.declared.token.Kind.TheVariants as k
pub use Rattle.flt_syntax.specs.FirstWords.{has_more, begins_status}
pub use Rattle.flt_syntax.specs.Tables.{final_status_of, bare_status_of}

-- S
unfoldable pub final_status : Parser FinalStatus
final_status = λ i. known_or (refusal i) (final_status_of (kind i)) i

-- a status of one word
unfoldable pub bare_status : Parser Status
bare_status = λ i. known_or (refusal i) (bare_status_of (kind i)) i

-- status, by its first word
abbrev pub status_by : Kind → Parser Status
status_by k.WithCallback = take_token >> statuses.WithCallback <$> with_context
status_by k.Synchronize = take_token >> statuses.Synchronize <$> with_context
status_by k.Complete = take_token >> statuses.Complete <$> final_status
status_by _ = bare_status

-- status
unfoldable pub status : Parser Status
status = peek >>= status_by

-- [ status ]
unfoldable pub optional_status : Parser (Option Status)
optional_status = λ i. if begins_status (kind i) then (Some <$> status) i else Ok (None, i)
