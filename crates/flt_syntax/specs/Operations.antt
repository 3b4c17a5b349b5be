-- The kinds of token that name operations.
use Rattle.std.specs.Prelude.{Option, Some, None}
use Rattle.flt_rules.specs.declared.place.Operation.{Operation}
use Rattle.flt_rules.specs.declared.place.Operation.TheVariants as operating
use Rattle.flt_syntax.specs.declared.token.Kind.{Kind}
use Rattle.flt_syntax.specs.declared.token.Kind.TheVariants as k

-- the kind of an operation's name
abbrev pub operation_kind : Operation → Kind
operation_kind operating.Create = k.Create
operation_kind operating.Read = k.Read
operation_kind operating.Write = k.Write
operation_kind operating.Cleanup = k.Cleanup

-- the operation that a word names
abbrev pub operation_of : Kind → Option Operation
operation_of k.Create = Some operating.Create
operation_of k.Read = Some operating.Read
operation_of k.Write = Some operating.Write
operation_of k.Cleanup = Some operating.Cleanup
operation_of _ = None
