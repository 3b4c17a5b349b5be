-- The lines of a listing. This project's own program.
use Rattle.std.specs.Prelude.{ℕ, ◌==◌, Bool, if◌then◌else◌, List, [], ◌∷◌, ◌++◌, codes, decimal, flat_map, Option, Some, None}
use Rattle.flt_shown.specs.Shown.{shown}
use Rattle.flt_c_tokens.specs.Bytes.{Text}
use Rattle.flt_c_tokens.specs.declared.token.Token.{Token}
use Rattle.flt_c_items.specs.Rows.{stretch}
use Rattle.flt_c_items.specs.declared.chunk.Reason.{Reason as ItemReason}
use Rattle.flt_c_items.specs.declared.item.Element.{Element}
use Rattle.flt_c_items.specs.declared.item.Row.{Row}
use Rattle.flt_c_items.specs.declared.item.Table.{Table}
use Rattle.flt_c_items.specs.declared.item.TableKind.{TableKind}
use Rattle.flt_c_items.specs.declared.item.TableKind.TheVariants as table
use Rattle.flt_c_syntax.specs.declared.fault.Fault.{Fault}
use Rattle.flt_c_syntax.specs.declared.tree.Place.{Place}
use Rattle.flt_c_functions.specs.Reasons.{item_words, reason_words}
use Rattle.flt_c_functions.specs.Texts.{text_at, token_text, tokens_text}

-- the name of a file, and a token's place in it
unfoldable pub place : Text → Token → Text
place name t = shown name ++ (codes ":" ++ (decimal t.line ++ (codes ":" ++ (decimal t.column ++ codes ": "))))

-- ---- functions

-- where and why reading stops, or that nothing stops it
unfoldable pub stop_text : Place → Text
stop_text place = codes "stops at line " ++ (decimal place.line ++ (codes ", column " ++ (decimal place.column ++ codes ": ")))

-- what helps where a line of an `#if` is in a statement
abbrev pub cut_text : Bool → Text
cut_text cut = if cut then codes "; --define or --undef may decide this #if" else []

unfoldable pub fault_text : Fault → Bool → Text
fault_text f cut = stop_text f.place ++ (reason_words f.reason ++ cut_text cut)

abbrev pub outcome_text : Option Fault → Bool → Text
outcome_text None cut = codes "read"
outcome_text (Some f) cut = fault_text f cut

-- the line of a function, at its name
unfoldable pub function_line : List Text → Text → Token → Option Fault → Bool → Text
function_line texts name t outcome cut =
    place name t ++ (codes "function " ++ (token_text texts t ++ (codes ": " ++ (outcome_text outcome cut ++ codes "\n"))))

-- ---- tables

abbrev pub kind_words : TableKind → Text
kind_words table.Operations = codes "operations"
kind_words table.Contexts = codes "contexts"
kind_words table.Registration = codes "registration"

-- what stands before the value of an element
abbrev pub designator : List Text → ℕ → Text
designator texts name = if name == 0 then [] else codes "." ++ (shown (text_at texts name) ++ codes " = ")

-- an element, of the tokens of its file
unfoldable pub element_text : List Text → List Token → Element → Text
element_text texts ts e = designator texts e.name ++ tokens_text texts (stretch e.from e.to ts)

-- elements, each behind a comma
abbrev pub more_elements : List Text → List Token → List Element → Text
more_elements texts ts = flat_map (λ (e : Element). codes ", " ++ element_text texts ts e)

-- with a comma between two
abbrev pub elements_text : List Text → List Token → List Element → Text
elements_text texts ts [] = []
elements_text texts ts (e ∷ es) = element_text texts ts e ++ more_elements texts ts es

-- the line of a row
unfoldable pub row_line : List Text → List Token → Row → Text
row_line texts ts r = codes "  { " ++ (elements_text texts ts r.elements ++ codes " }\n")

-- the line of a table, at its name
unfoldable pub table_line : List Text → Text → Table → Text
table_line texts name t =
    place name t.name ++ (codes "table " ++ (token_text texts t.name ++ (codes ": " ++ (kind_words t.kind ++ codes "\n"))))

-- and below it those of its rows
abbrev pub table_lines : List Text → Text → List Token → Table → Text
table_lines texts name ts t = table_line texts name t ++ flat_map (row_line texts ts) t.rows

-- ---- what isn't read

-- the line of an item that isn't read, at its first token
unfoldable pub unread_line : Text → Token → ItemReason → Text
unread_line name t why = place name t ++ (codes "not read: " ++ (item_words why ++ codes "\n"))
