-- What a token names, and where else that is named.
use Rattle.std.specs.Prelude.{ℕ, ◌-◌, ◌^◌, Bool, true, false, not, ◌&&◌, ◌||◌, ◌==◌, if◌then◌else◌, nat_le}
use Rattle.std.specs.Prelude.{nat_lt, List, [], ◌∷◌, Option, Some, None, find, option_and_then}
use Rattle.std.specs.Str.{bytes_eq}
use Rattle.flt_server_outline.specs.Blocks.{depth_after}
use Rattle.flt_server_outline.specs.Symbols.{is_close_brace}
use Rattle.flt_server_outline.specs.declared.roles.MarkedToken.{MarkedToken}
use Rattle.flt_server_outline.specs.declared.roles.NameOf.{NameOf}
use Rattle.flt_server_outline.specs.declared.roles.NameOf.TheVariants as name
use Rattle.flt_server_outline.specs.declared.roles.Role.{Role}
use Rattle.flt_server_outline.specs.declared.roles.Role.TheVariants as role
use Rattle.flt_server_outline.specs.declared.symbols.Part.{Part}
use Rattle.flt_server_outline.specs.declared.uses.Body.{Body}
use Rattle.flt_server_outline.specs.declared.uses.Mention.{Mention}
use Rattle.flt_server_outline.specs.declared.uses.NamedThing.{NamedThing}
use Rattle.flt_server_outline.specs.declared.uses.NamedThing.TheVariants as named
use Rattle.flt_syntax.specs.Cursor.{bytes_of}
use Rattle.flt_syntax.specs.declared.token.Kind.{Kind}
use Rattle.flt_syntax.specs.declared.token.Kind.TheVariants as k
use Rattle.flt_syntax.specs.declared.token.Token.{Token}
use Rattle.flt_tree.specs.Names.{Text}

-- ---- the token at a place

abbrev pub has : ℕ → Token → Bool
has byte t = nat_le t.start byte && nat_lt byte t.end

abbrev pub ends_at : ℕ → Token → Bool
ends_at byte t = t.end == byte && nat_lt t.start byte

abbrev pub or_else : Option MarkedToken → Option MarkedToken → Option MarkedToken
or_else None other = other
or_else (Some m) other = Some m

-- the token that has a byte, or else the one that ends before it
abbrev pub marked_at : ℕ → List MarkedToken → Option MarkedToken
marked_at byte ms = or_else (find (λ m. has byte m.token) ms) (find (λ m. ends_at byte m.token) ms)

-- ---- the body of a callback

-- the byte with which it begins, behind a token
abbrev pub start_after : Body → Token → Kind → ℕ
start_after body t k.OpenBrace = if body.depth == 0 then t.start else body.start
start_after body t _ = body.start

-- the body behind a token
abbrev pub body_after : Body → Token → Body
body_after body t = record { depth = depth_after body.depth t.word.kind; start = start_after body t t.word.kind }

-- the brace that ends a body which has a byte
abbrev pub ends_body : Body → Token → ℕ → Bool
ends_body body t byte = is_close_brace t.word.kind && nat_le body.depth 1 && nat_lt byte t.end

-- the body that has a byte, which begins in these tokens or has begun before; up to the end of all texts if it isn't closed
abbrev pub body_from : Body → ℕ → List MarkedToken → Part
body_from body byte [] = record { start = body.start; end = 2 ^ 64 - 1 }
body_from body byte (m ∷ ms) =
    if ends_body body m.token byte then record { start = body.start; end = m.token.end } else body_from (body_after body m.token) byte ms

-- ---- mentions

abbrev pub named_as : List MarkedToken → ℕ → Role → Option NamedThing
named_as ms byte role.Plain = None
named_as ms byte role.Variable = Some (named.Variable (body_from (record { depth = 0; start = 0 }) byte ms))
named_as ms byte (role.Declared of) = Some (named.Name of)
named_as ms byte (role.Used of) = Some (named.Name of)

-- what a token names
abbrev pub named_by : List MarkedToken → MarkedToken → Option NamedThing
named_by ms m = named_as ms m.token.start m.role

abbrev pub mention_of : List MarkedToken → MarkedToken → Option Mention
mention_of ms m = option_and_then (λ n. Some (record { token = m.token; named = n })) (named_by ms m)

-- the token at a place, and what it names
abbrev pub mention_at : ℕ → List MarkedToken → Option Mention
mention_at byte ms = option_and_then (mention_of ms) (marked_at byte ms)

-- ---- uses

abbrev pub is_same : NameOf → NameOf → Bool
is_same name.Filter name.Filter = true
is_same name.Lock name.Lock = true
is_same name.Routine name.Routine = true
is_same _ _ = false

abbrev pub is_within : Part → Token → Bool
is_within part t = nat_le part.start t.start && nat_le t.end part.end

abbrev pub name_as : NameOf → Role → Bool
name_as of (role.Declared other) = is_same of other
name_as of (role.Used other) = is_same of other
name_as of _ = false

abbrev pub variable_as : Part → Token → Role → Bool
variable_as part t role.Variable = is_within part t
variable_as part t _ = false

-- a token names the same kind of thing, in the same body if that is a variable
abbrev pub may_name : NamedThing → MarkedToken → Bool
may_name (named.Name of) m = name_as of m.role
may_name (named.Variable part) m = variable_as part m.token m.role

-- two tokens of a text have the same bytes
abbrev pub are_alike : Text → Token → Token → Bool
are_alike text t u = bytes_eq (bytes_of text t) (bytes_of text u)

-- a token names the same
abbrev pub names_it : Text → Mention → MarkedToken → Bool
names_it text mention m = may_name mention.named m && are_alike text mention.token m.token

abbrev pub declares : Role → Bool
declares (role.Declared of) = true
declares _ = false

-- a token is a use, among which the declaration is or isn't
abbrev pub is_use : Text → Mention → Bool → MarkedToken → Bool
is_use text mention with_declaration m = names_it text mention m && (with_declaration || not (declares m.role))

abbrev pub is_variable : NamedThing → Bool
is_variable (named.Variable part) = true
is_variable (named.Name of) = false

-- a token declares what is named, or may be the first use of a variable
abbrev pub is_first : Text → Mention → MarkedToken → Bool
is_first text mention m = names_it text mention m && (is_variable mention.named || declares m.role)
