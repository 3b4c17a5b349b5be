-- The first words of productions, where several may stand.
use Rattle.std.specs.Prelude.{Bool, true, false, ◌||◌, is_some}
use Rattle.flt_syntax.specs.Tables.{number_variable_of, context_variable_of, removed_variable_of}
use Rattle.flt_syntax.specs.Tables.{bare_status_of, fallible_shape_of, plain_shape_of}
use Rattle.flt_syntax.specs.declared.token.Kind.{Kind}
use Rattle.flt_syntax.specs.declared.token.Kind.TheVariants as k

-- the statuses with something behind their word
abbrev pub has_more : Kind → Bool
has_more k.WithCallback = true
has_more k.Synchronize = true
has_more k.Complete = true
has_more _ = false

-- the first words of a status
abbrev pub begins_status : Kind → Bool
begins_status kind = has_more kind || is_some (bare_status_of kind)

-- the first words of the calls that can fail
abbrev pub begins_fallible : Kind → Bool
begins_fallible kind = is_some (fallible_shape_of kind)

-- the first words of the calls that always succeed
abbrev pub begins_plain : Kind → Bool
begins_plain kind = is_some (plain_shape_of kind)

-- a variable: N, C or O
abbrev pub is_variable : Kind → Bool
is_variable kind = is_some (number_variable_of kind) || (is_some (context_variable_of kind) || is_some (removed_variable_of kind))

-- "irp" | "draining"
abbrev pub is_test_word : Kind → Bool
is_test_word k.Irp = true
is_test_word k.Draining = true
is_test_word _ = false

-- the first words of the tests that call nothing
abbrev pub begins_test : Kind → Bool
begins_test kind = is_variable kind || is_test_word kind

-- "value" | "return"
abbrev pub is_simple_word : Kind → Bool
is_simple_word k.Value = true
is_simple_word k.Return = true
is_simple_word _ = false

-- "if" | "repeat"
abbrev pub has_blocks : Kind → Bool
has_blocks k.If = true
has_blocks k.Repeat = true
has_blocks _ = false

-- the first words of the statements that are no calls
abbrev pub begins_other : Kind → Bool
begins_other kind = is_variable kind || (is_simple_word kind || has_blocks kind)

-- the first words of a head
abbrev pub begins_head : Kind → Bool
begins_head k.Pre = true
begins_head k.Post = true
begins_head k.Canceled = true
begins_head k.DeferredPre = true
begins_head k.DeferredPost = true
begins_head k.Generic = true
begins_head _ = false
