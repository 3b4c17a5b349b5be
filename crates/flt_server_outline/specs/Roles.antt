-- What the tokens of a text name. A name may be any word, and the word before it says what it names.
use Rattle.std.specs.Prelude.{Bool, true, false, ◌||◌, if◌then◌else◌, List, [], ◌∷◌}
use Rattle.flt_server_outline.specs.declared.roles.After.{After}
use Rattle.flt_server_outline.specs.declared.roles.After.TheVariants as after
use Rattle.flt_server_outline.specs.declared.roles.MarkedToken.{MarkedToken}
use Rattle.flt_server_outline.specs.declared.roles.NameOf.TheVariants as name
use Rattle.flt_server_outline.specs.declared.roles.Role.{Role}
use Rattle.flt_server_outline.specs.declared.roles.Role.TheVariants as role
use Rattle.flt_syntax.specs.Cursor as cursor
use Rattle.flt_syntax.specs.declared.token.Kind.{Kind}
use Rattle.flt_syntax.specs.declared.token.Kind.TheVariants as k
use Rattle.flt_syntax.specs.declared.token.Token.{Token}

abbrev pub is_symbol : Kind → Bool
is_symbol = cursor.is_symbol

abbrev pub is_other : Kind → Bool
is_other = cursor.is_other

-- the variables of numbers
abbrev pub is_number : Kind → Bool
is_number k.N0 = true
is_number k.N1 = true
is_number k.N2 = true
is_number k.N3 = true
is_number k.N4 = true
is_number k.N5 = true
is_number k.N6 = true
is_number k.N7 = true
is_number _ = false

-- the variables of contexts
abbrev pub is_context : Kind → Bool
is_context k.C0 = true
is_context k.C1 = true
is_context k.C2 = true
is_context k.C3 = true
is_context k.C4 = true
is_context k.C5 = true
is_context k.C6 = true
is_context k.C7 = true
is_context k.Arg = true
is_context _ = false

-- the variables of operations
abbrev pub is_operation : Kind → Bool
is_operation k.O0 = true
is_operation k.O1 = true
is_operation k.O2 = true
is_operation k.O3 = true
is_operation k.Data = true
is_operation _ = false

abbrev pub is_variable : Kind → Bool
is_variable kind = is_number kind || is_context kind || is_operation kind

-- what comes after a word of the grammar
abbrev pub after_word : Kind → After
after_word k.Filter = after.Declared name.Filter
after_word k.Spin = after.Declared name.Lock
after_word k.Fast = after.Declared name.Lock
after_word k.Push = after.Declared name.Lock
after_word k.DeferredPre = after.Declared name.Routine
after_word k.DeferredPost = after.Declared name.Routine
after_word k.Generic = after.Declared name.Routine
after_word k.AcquireSpinLock = after.Used name.Lock
after_word k.ReleaseSpinLock = after.Used name.Lock
after_word k.AcquireFastMutex = after.Used name.Lock
after_word k.ReleaseFastMutex = after.Used name.Lock
after_word k.AcquirePushLock = after.Used name.Lock
after_word k.AcquirePushLockShared = after.Used name.Lock
after_word k.ReleasePushLock = after.Used name.Lock
after_word k.QueueGenericWorkItem = after.Used name.Routine
after_word k.QueueDeferredIoWorkItem = after.Operation
after_word _ = after.Anything

-- what comes after an operation, where a routine's name is to follow it
abbrev pub after_operation : Kind → After
after_operation k.Data = after.Used name.Routine
after_operation kind = after_word kind

-- what comes after a token that itself comes after another
abbrev pub after_token : After → Kind → After
after_token (after.Declared of) kind = after.Anything
after_token (after.Used of) kind = after.Anything
after_token after.Operation kind = after_operation kind
after_token after.Anything kind = after_word kind

-- what a token is that is no name
abbrev pub plain_role : Kind → Role
plain_role kind = if is_variable kind then role.Variable else role.Plain

-- what a token is that comes after another
abbrev pub role_of : After → Kind → Role
role_of (after.Declared of) kind = if cursor.is_word kind then role.Declared of else plain_role kind
role_of (after.Used of) kind = if cursor.is_word kind then role.Used of else plain_role kind
role_of after.Operation kind = plain_role kind
role_of after.Anything kind = plain_role kind

-- tokens, each with what it is
abbrev pub marked_from : After → List Token → List MarkedToken
marked_from before [] = []
marked_from before (t ∷ ts) =
    (record { token = t; role = role_of before t.word.kind }) ∷ marked_from (after_token before t.word.kind) ts
