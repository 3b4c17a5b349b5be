-- The items of a file. This project's own rule.
use Rattle.std.specs.Prelude.{◌≡◌, ◌<◌, ℕ, Bool, ◌&&◌, ◌==◌, List, [], ◌∷◌, length, map, flat_map, Option, Some, None}
use Rattle.std.specs.List.{list_any}
use Rattle.flt_c_tokens.specs.declared.token.Kind.TheVariants as k
use Rattle.flt_c_tokens.specs.declared.token.Token.{Token}
use Rattle.flt_c_items.specs.Cutting.{chunks}
use Rattle.flt_c_items.specs.Declarators.{names, parameters}
use Rattle.flt_c_items.specs.Kinds.{same_kind}
use Rattle.flt_c_items.specs.Rows.{elements, rows, start, stretch, typedef_from}
use Rattle.flt_c_items.specs.declared.chunk.Chunk.{Chunk}
use Rattle.flt_c_items.specs.declared.chunk.Ending.{Ending}
use Rattle.flt_c_items.specs.declared.chunk.Ending.TheVariants.{Body, Sentence, Passed, Unread}
use Rattle.flt_c_items.specs.declared.item.Item.{Item}
use Rattle.flt_c_items.specs.declared.item.Part.{Part}
use Rattle.flt_c_items.specs.declared.item.Part.TheVariants as part
use Rattle.flt_c_items.specs.declared.item.Table.{Table}
use Rattle.flt_c_items.specs.declared.table.TableStart.{TableStart}
use Rattle.flt_c_items.specs.declared.words.Words.{Words}

-- `static`
abbrev pub is_internal : Words → Token → Bool
is_internal words t = same_kind t.kind k.Qualifier && t.word == words.internal

-- a function: `static` may stand anywhere before its parameters
unfoldable pub function : Words → List Token → Chunk → Token → ℕ → ℕ → Part
function words ts c name bracket body =
    part.Function (record {
      name = name;
      is_static = list_any (is_internal words) (stretch c.from bracket ts);
      parameters = parameters words (stretch bracket body ts);
      body = body;
    })

-- what a `typedef` names, if one stands in the chunk
abbrev pub types_by : Option ℕ → List Token → Chunk → Part
types_by None ts c = part.Other
types_by (Some from) ts c = part.Types (names (stretch from c.to ts))

unfoldable pub types : List Token → Chunk → Part
types ts c = types_by (typedef_from 0 c.from (stretch c.from c.to ts)) ts c

-- the table that begins at a brace
abbrev pub table : List Token → TableStart → ℕ → Table
table ts s to = record { kind = s.kind; name = s.name; rows = rows s.kind ts (elements ts s.brace to) }

-- a table, or what a `typedef` names, or another declaration
abbrev pub sentence_by : Option TableStart → List Token → Chunk → Part
sentence_by None ts c = types ts c
sentence_by (Some s) ts c = part.Table (table ts s c.to)

unfoldable pub sentence : Words → List Token → Chunk → Part
sentence words ts c = sentence_by (start words ts c.from c.to) ts c

abbrev pub part_by : Ending → Words → List Token → Chunk → Part
part_by (Body name bracket body) words ts c = function words ts c name bracket body
part_by Sentence words ts c = sentence words ts c
part_by Passed words ts c = part.Other
part_by (Unread why) words ts c = part.Unread why

-- the item that a chunk is
unfoldable pub item : Words → List Token → Chunk → Item
item words ts c = record { from = c.from; to = c.to; part = part_by c.ending words ts c }

-- the items of a file, in order
unfoldable pub items : Words → List Token → List Item
items words ts = map (item words ts) (chunks words ts)

-- ---- no token is left out

-- items that stand one behind the other, the first behind `from` tokens and the last up to `to`; none is empty
abbrev pub Follow : ℕ → List Item → ℕ → Type 0
Follow from [] to = from ≡ to
Follow from (i ∷ is) to = (i.from ≡ from) × ((from < i.to) × Follow i.to is to)

-- the items of a file stand one behind the other, from its first token to its last
abbrev pub ItemsFollow : Type 0
ItemsFollow = (words : Words) (ts : List Token) → Follow 0 (items words ts) (length ts)

-- the tokens of a file's items, one item after the other, are all of the file's in order, each once
abbrev pub NoTokenIsLeftOut : Type 0
NoTokenIsLeftOut = (words : Words) (ts : List Token) → flat_map (λ i. stretch i.from i.to ts) (items words ts) ≡ ts
