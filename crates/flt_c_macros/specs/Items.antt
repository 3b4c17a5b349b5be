-- What is read where macros are expanded: words, which are tokens, and the ends of bodies.
use Rattle.std.specs.Prelude.{ℕ, nat_eq, Bool, false, ◌&&◌, ◌||◌, List, map}
use Rattle.std.specs.List.{list_any}
use Rattle.flt_c_tokens.specs.declared.token.Kind.TheVariants as k
use Rattle.flt_c_tokens.specs.declared.token.Token.{Token}
use Rattle.flt_c_macros.specs.declared.item.Item.{Item}
use Rattle.flt_c_macros.specs.declared.item.Item.TheVariants.{Read}
use Rattle.flt_c_macros.specs.declared.item.Word.{Word}
use Rattle.flt_c_macros.specs.Kinds.{same_kind}

-- a token that may be expanded
abbrev pub plain : Token → Word
plain t = record { token = t; is_painted = false }

-- a token at the place of another
abbrev pub placed : Token → Token → Token
placed t at = record t { start = at.start; line = at.line; column = at.column }

-- the name of a macro whose body is being read
abbrev pub is_busy : List ℕ → Token → Bool
is_busy busy t = same_kind t.kind k.Name && list_any (λ name. nat_eq name t.word) busy

-- a word as it stays: such a name is painted, so that it isn't expanded later, either
abbrev pub colored : List ℕ → Word → Word
colored busy w = record w { is_painted = w.is_painted || is_busy busy w.token }

-- words are items, and so are tokens of text
abbrev pub items_of : List Word → List Item
items_of ws = map (λ w. Read w) ws

abbrev pub text_items : List Token → List Item
text_items ts = map (λ t. Read (plain t)) ts
