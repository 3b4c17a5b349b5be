-- What the reading of a function's body comes to. This project's own rule.
use Rattle.std.specs.List.{list_any}
use Rattle.std.specs.Prelude.{◌≡◌, ◌==◌, ℕ, ◌-◌, Bool, true, false, ◌&&◌, List, [], ◌∷◌, ◌++◌, Option, Some, None, Err, slice_get}
use Rattle.flt_c_tokens.specs.declared.token.Kind.{Kind}
use Rattle.flt_c_tokens.specs.declared.token.Kind.TheVariants as k
use Rattle.flt_c_tokens.specs.declared.token.Token.{Token}
use Rattle.flt_c_items.specs.Rows.{stretch}
use Rattle.flt_c_syntax.specs.Body.{Spells, body_of}
use Rattle.flt_c_syntax.specs.Tokens.{Input, front}
use Rattle.flt_c_syntax.specs.declared.class.Class.{Class}
use Rattle.flt_c_syntax.specs.declared.fault.Fault.{Fault}
use Rattle.flt_c_syntax.specs.declared.tree.Place.{Place}
use Rattle.flt_c_syntax.specs.declared.tree.Statement.{Statement}

-- the token at a number; where there is none, an end that stands nowhere
abbrev pub token_or_end : Option Token → Token
token_or_end None = front []
token_or_end (Some t) = t

abbrev pub token_at : List Token → ℕ → Token
token_at ts n = token_or_end (slice_get ts n)

-- an end at a token's place
abbrev pub end_at : Token → Token
end_at t = record { kind = k.End; is_glued = false; word = 0; start = t.start; line = t.line; column = t.column }

-- the tokens of a body, from its `{` up to the end of its function, and an end at the place of the last one
unfoldable pub body_tokens : List Token → ℕ → ℕ → Input
body_tokens ts from to = stretch from to ts ++ end_at (token_at ts (to - 1)) ∷ []

-- Nothing stops the reading of a body, since its tokens spell statements; or its first fault does.
abbrev pub IsOutcome : List Class → Input → Option Fault → Type 0
IsOutcome known body None = (ss : List Statement) × Spells known body ss
IsOutcome known body (Some f) = body_of known body ≡ Err f

-- ---- lines of an `#if`

-- a line of an `#if` that nothing decides
abbrev pub is_mark : Kind → Bool
is_mark k.GroupIf = true
is_mark k.GroupElse = true
is_mark k.GroupEnd = true
is_mark _ = false

abbrev pub is_mark_at : Place → Token → Bool
is_mark_at p t = is_mark t.kind && (t.line == p.line && t.column == p.column)

-- reading stops at such a line
abbrev pub is_cut : List Token → Option Fault → Bool
is_cut ts None = false
is_cut ts (Some f) = list_any (is_mark_at f.place) ts
