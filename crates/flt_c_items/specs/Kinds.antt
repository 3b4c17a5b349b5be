-- What kinds of token do where a file is cut. The C standard's signs and words.
use Rattle.std.specs.Prelude.{ℕ, ◌+◌, ◌-◌, ◌^◌, min, Bool, true, false, if◌then◌else◌}
use Rattle.flt_c_tokens.specs.declared.token.Kind.{Kind}
use Rattle.flt_c_tokens.specs.declared.token.Kind.TheVariants as k
use Rattle.flt_c_tokens.specs.contracts.token.Kind.{the_type}
use denote.Enum.Bare.{sameb}

-- `==` on kinds
unfoldable pub same_kind : Kind → Kind → Bool
same_kind = sameb the_type

-- the lines of an `#if` that isn't decided
abbrev pub is_group : Kind → Bool
is_group k.GroupIf = true
is_group k.GroupElse = true
is_group k.GroupEnd = true
is_group _ = false

abbrev pub opens : Kind → Bool
opens k.OpenParen = true
opens k.OpenBracket = true
opens k.OpenBrace = true
opens _ = false

abbrev pub closes : Kind → Bool
closes k.CloseParen = true
closes k.CloseBracket = true
closes k.CloseBrace = true
closes _ = false

-- what no declaration of C has outside of brackets: `:` and the words of statements
abbrev pub is_foreign : Kind → Bool
is_foreign k.Colon = true
is_foreign k.If = true
is_foreign k.Else = true
is_foreign k.While = true
is_foreign k.Do = true
is_foreign k.For = true
is_foreign k.Switch = true
is_foreign k.Case = true
is_foreign k.Default = true
is_foreign k.Goto = true
is_foreign k.Return = true
is_foreign k.Break = true
is_foreign k.Continue = true
is_foreign k.Try = true
is_foreign k.Finally = true
is_foreign k.Except = true
is_foreign k.Leave = true
is_foreign _ = false

-- the words with which a function may begin
abbrev pub begins : Kind → Bool
begins k.Name = true
begins k.TypeWord = true
begins k.Qualifier = true
begins k.Struct = true
begins k.Attribute = true
begins _ = false

-- what no function's head has before its body
abbrev pub ends_front : Kind → Bool
ends_front k.Semicolon = true
ends_front k.OpenBrace = true
ends_front k.CloseBrace = true
ends_front _ = false

-- how deep in brackets what follows a token stands; what closes nothing stays outside
abbrev pub depth_after : Kind → ℕ → ℕ
depth_after kind depth =
    if opens kind then min (depth + 1) (2 ^ 64 - 1) else (if closes kind then depth - 1 else depth)
