-- Tables of registrations: their rows, and the elements of rows. This project's own rule.
use Rattle.std.specs.Prelude.{ℕ, ◌+◌, Bool, false, not, ◌&&◌, ◌||◌, if◌then◌else◌, ◌==◌, List, [], ◌∷◌, map}
use Rattle.std.specs.Prelude.{length, min, slice_range, slice_get, Option, Some, None}
use Rattle.flt_c_tokens.specs.declared.token.Kind.TheVariants as k
use Rattle.flt_c_tokens.specs.declared.token.Token.{Token}
use Rattle.flt_c_items.specs.Fronts.{no_token}
use Rattle.flt_c_items.specs.Kinds.{closes, depth_after, is_group, same_kind}
use Rattle.flt_c_items.specs.declared.item.Element.{Element}
use Rattle.flt_c_items.specs.declared.item.Row.{Row}
use Rattle.flt_c_items.specs.declared.item.TableKind.{TableKind}
use Rattle.flt_c_items.specs.declared.item.TableKind.TheVariants as table
use Rattle.flt_c_items.specs.declared.rows.OpenElement.{OpenElement}
use Rattle.flt_c_items.specs.declared.table.TableHead.{TableHead}
use Rattle.flt_c_items.specs.declared.table.TableStart.{TableStart}
use Rattle.flt_c_items.specs.declared.words.Words.{Words}

-- the tokens from a number up to another one
unfoldable pub stretch : ℕ → ℕ → List Token → List Token
stretch from to ts = let end = min to (length ts) in slice_range ts (min from end) end

-- ---- elements

-- an element of which nothing is read
abbrev pub begun : ℕ → OpenElement
begun from = record { from = from; depth = 0; is_designated = false; word = 0; name = 0 }

-- the `=` of `.NAME =` and `[PLACE] =`, behind which the value begins
abbrev pub designates : OpenElement → Token → Bool
designates p t = p.is_designated && (p.depth == 0 && same_kind t.kind k.Assign)

-- `.` or `[` at the front of an element
abbrev pub begins_designator : OpenElement → ℕ → Token → Bool
begins_designator p at t = p.depth == 0 && (p.from == at && (same_kind t.kind k.Dot || same_kind t.kind k.OpenBracket))

-- an element behind one more token; a line of an `#if` at its front isn't part of it
unfoldable pub continued : OpenElement → ℕ → Token → OpenElement
continued p at t =
    record {
      from = if designates p t || is_group t.kind && p.from == at then at + 1 else p.from;
      depth = depth_after t.kind p.depth;
      is_designated = not (designates p t) && (p.is_designated || begins_designator p at t);
      word = if p.depth == 0 && same_kind t.kind k.Name then t.word else p.word;
      name = if designates p t then p.word else p.name;
    }

abbrev pub element : OpenElement → ℕ → Element
element p at = record { name = p.name; from = p.from; to = at }

-- behind the last comma
abbrev pub last_element : OpenElement → ℕ → List Element
last_element p at = if p.from == at then [] else element p at ∷ []

-- the elements from one on, up to the bracket that closes them
abbrev pub elements_from : OpenElement → ℕ → List Token → List Element
elements_from p at [] = last_element p at
elements_from p at (t ∷ ts) =
    if p.depth == 0 && closes t.kind then last_element p at
    else (if p.depth == 0 && same_kind t.kind k.Comma then element p at ∷ elements_from (begun (at + 1)) (at + 1) ts
    else elements_from (continued p at t) (at + 1) ts)

-- those behind the bracket that opens them, before which `at` tokens stand
abbrev pub elements_behind : ℕ → List Token → List Element
elements_behind at [] = []
elements_behind at (t ∷ ts) = elements_from (begun (at + 1)) (at + 1) ts

-- those in the bracket at a number, of the tokens up to another one
unfoldable pub elements : List Token → ℕ → ℕ → List Element
elements ts from to = elements_behind from (stretch from to ts)

-- ---- rows

-- the elements of an element in braces, else the element alone
abbrev pub row_by : Option Token → List Token → Element → List Element
row_by None ts e = e ∷ []
row_by (Some t) ts e = if same_kind t.kind k.OpenBrace then elements ts e.from e.to else e ∷ []

unfoldable pub row : List Token → Element → Row
row ts e = record { elements = row_by (slice_get ts e.from) ts e }

-- A registration is one row.
unfoldable pub rows : TableKind → List Token → List Element → List Row
rows table.Registration ts es = record { elements = es } ∷ []
rows _ ts es = map (row ts) es

-- ---- tables

-- the table that a word names, or the one before
abbrev pub kind_by : Words → ℕ → Option TableKind → Option TableKind
kind_by words word old =
    if word == words.operations then Some table.Operations
    else (if word == words.contexts then Some table.Contexts
    else (if word == words.registration then Some table.Registration else old))

-- what stands before a table's `=`, behind one more token: the last name is the table's
unfoldable pub head_after : Words → TableHead → Token → TableHead
head_after words h t =
    if h.depth == 0 && same_kind t.kind k.Name
    then record { depth = h.depth; kind = kind_by words t.word h.kind; name = t }
    else record h { depth = depth_after t.kind h.depth }

abbrev pub no_head : TableHead
no_head = record { depth = 0; kind = None; name = no_token }

-- behind the `=` a table's braces open
abbrev pub start_by : Option TableKind → TableHead → ℕ → List Token → Option TableStart
start_by None h at ts = None
start_by (Some kind) h at [] = None
start_by (Some kind) h at (t ∷ ts) =
    if same_kind t.kind k.OpenBrace then Some (record { kind = kind; name = h.name; brace = at }) else None

-- where the braces of a table open, if a chunk is one: its `=` stands outside of brackets
abbrev pub start_from : Words → TableHead → ℕ → List Token → Option TableStart
start_from words h at [] = None
start_from words h at (t ∷ ts) =
    if h.depth == 0 && same_kind t.kind k.Assign then start_by h.kind h (at + 1) ts
    else start_from words (head_after words h t) (at + 1) ts

unfoldable pub start : Words → List Token → ℕ → ℕ → Option TableStart
start words ts from to = start_from words no_head from (stretch from to ts)

-- ---- type names

-- how many tokens stand up to the first `typedef` outside of brackets, with it
abbrev pub typedef_from : ℕ → ℕ → List Token → Option ℕ
typedef_from depth at [] = None
typedef_from depth at (t ∷ ts) =
    if depth == 0 && same_kind t.kind k.Typedef then Some (at + 1) else typedef_from (depth_after t.kind depth) (at + 1) ts
