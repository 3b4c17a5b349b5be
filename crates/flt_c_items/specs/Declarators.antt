-- What a declarator says: the name that it gives, its type's last word, and its stars. This project's own rule.
use Rattle.std.specs.Prelude.{ℕ, ◌+◌, ◌-◌, ◌^◌, min, Bool, true, false, ◌&&◌, ◌||◌, if◌then◌else◌, ◌==◌, List, [], ◌∷◌, ◌++◌}
use Rattle.flt_c_tokens.specs.declared.token.Kind.{Kind}
use Rattle.flt_c_tokens.specs.declared.token.Kind.TheVariants as k
use Rattle.flt_c_tokens.specs.declared.token.Token.{Token}
use Rattle.flt_c_items.specs.Kinds.{closes, depth_after, opens, same_kind}
use Rattle.flt_c_items.specs.declared.declarator.Declarator.{Declarator}
use Rattle.flt_c_items.specs.declared.item.Parameter.{Parameter}
use Rattle.flt_c_items.specs.declared.words.Words.{Words}

-- a declarator of which nothing is known
abbrev pub no_declarator : Declarator
no_declarator = record {
  depth = 0;
  is_empty = true;
  last = 0;
  type_word = 0;
  stars = 0;
  inner = 0;
  is_behind = false;
  grouped = 0;
}

-- ---- one more token

-- in brackets: of `(*NAME)` the name counts
abbrev pub inside : Declarator → Token → Declarator
inside d t =
    let depth = depth_after t.kind d.depth in
    record d {
      depth = depth;
      is_empty = false;
      inner = if d.depth == 1 && same_kind t.kind k.Name then t.word else d.inner;
      is_behind = depth == 0 && same_kind t.kind k.CloseParen;
    }

-- the last word of the type, where what was the last name is none
abbrev pub last_type_word : Declarator → ℕ
last_type_word d = if d.last == 0 then d.type_word else d.last

-- A name: the one before it belongs to the type.
abbrev pub named : Declarator → ℕ → Declarator
named d word = record d { is_empty = false; last = word; type_word = last_type_word d; is_behind = false }

-- a word of a type
abbrev pub typed : Declarator → ℕ → Declarator
typed d word = record d { is_empty = false; last = 0; type_word = word; is_behind = false }

-- a star
abbrev pub starred : Declarator → Declarator
starred d = record d { is_empty = false; last = 0; type_word = last_type_word d; stars = min (d.stars + 1) (2 ^ 64 - 1); is_behind = false }

-- Another sign or word. Brackets right behind `(*NAME)` are those of a pointer to a function or to an array.
abbrev pub passed : Kind → Declarator → Declarator
passed kind d =
    record d {
      depth = depth_after kind d.depth;
      is_empty = false;
      inner = if opens kind then 0 else d.inner;
      is_behind = false;
      grouped = if opens kind && d.is_behind then d.inner else d.grouped;
    }

-- outside of brackets, by the token's kind
abbrev pub outside_by : Kind → Declarator → ℕ → Declarator
outside_by k.Name d word = named d word
outside_by k.TypeWord d word = typed d word
outside_by k.Star d word = starred d
outside_by kind d word = passed kind d

-- a declarator behind one more token
unfoldable pub declared : Declarator → Token → Declarator
declared d t = if d.depth == 0 then outside_by t.kind d t.word else inside d t

-- ---- what it says

-- the name that it gives, or 0
abbrev pub name_of : Declarator → ℕ
name_of d = if d.grouped == 0 then d.last else d.grouped

-- the last word of its type, or 0
abbrev pub type_of : Declarator → ℕ
type_of d = if d.grouped == 0 then d.type_word else last_type_word d

-- ---- the parameters of a function

abbrev pub parameter : Declarator → Parameter
parameter d = record { name = name_of d; type_word = type_of d; stars = d.stars }

-- nothing, or `void`, or `VOID`
abbrev pub is_nothing : Words → Declarator → Bool
is_nothing words d =
    d.is_empty || name_of d == 0 && d.type_word == words.nothing && d.stars == 0
    || d.type_word == 0 && d.last == words.no_value && d.stars == 0

-- behind the last comma
abbrev pub last_parameter : Words → Declarator → List Parameter
last_parameter words d = if is_nothing words d then [] else parameter d ∷ []

-- outside of brackets a token of the kind stands
abbrev pub stands_outside : Kind → Declarator → Token → Bool
stands_outside kind d t = d.depth == 0 && same_kind t.kind kind

-- the parameters from a declarator on, up to the `)` that closes them
abbrev pub parameters_from : Words → Declarator → List Token → List Parameter
parameters_from words d [] = last_parameter words d
parameters_from words d (t ∷ ts) =
    if d.depth == 0 && closes t.kind then last_parameter words d
    else (if stands_outside k.Comma d t then parameter d ∷ parameters_from words no_declarator ts
    else parameters_from words (declared d t) ts)

-- those of the tokens from their `(` on
unfoldable pub parameters : Words → List Token → List Parameter
parameters words [] = []
parameters words (t ∷ ts) = parameters_from words no_declarator ts

-- ---- the names of a `typedef`

-- a name, if there is one
abbrev pub some_name : ℕ → List ℕ
some_name word = if word == 0 then [] else word ∷ []

-- the names that the declarators from one on give, up to the end of a chunk
abbrev pub names_from : Declarator → List Token → List ℕ
names_from d [] = some_name (name_of d)
names_from d (t ∷ ts) =
    if stands_outside k.Comma d t then some_name (name_of d) ++ names_from no_declarator ts else names_from (declared d t) ts

-- those of the tokens behind `typedef`
unfoldable pub names : List Token → List ℕ
names ts = names_from no_declarator ts
