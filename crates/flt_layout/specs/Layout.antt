-- How items are laid out: which token begins a line follows from the kinds of the tokens before it. This project's own rule.
use Rattle.std.specs.Prelude.{ℕ, ◌+◌, ◌-◌, Bool, true, false, not, ◌&&◌, ◌||◌, if◌then◌else◌, ◌==◌, List, [], ◌∷◌, ◌++◌, is_some}
use Rattle.std.specs.List.{position}
use Rattle.std.specs.Option.{option_map_or}
use Rattle.flt_tree.specs.Names.{Text}
use Rattle.flt_print.specs.Line.{indentation}
use Rattle.flt_syntax.specs.Shape.{slots_of}
use Rattle.flt_syntax.specs.Tables.{plain_shape_of}
use Rattle.flt_syntax.specs.declared.shape.Slot.{Slot}
use Rattle.flt_syntax.specs.declared.shape.Slot.TheVariants as part
use Rattle.flt_syntax.specs.declared.token.Kind.{Kind}
use Rattle.flt_syntax.specs.declared.token.Kind.TheVariants as k
use Rattle.flt_layout.specs.Items.{Item, a_token, a_comment, items}
use Rattle.flt_layout.specs.declared.space.Space.{Space}
use Rattle.flt_layout.specs.declared.space.Space.TheVariants as space
use Rattle.flt_layout.specs.declared.state.Place.{Place}
use Rattle.flt_layout.specs.declared.state.Place.TheVariants as place
use Rattle.flt_layout.specs.declared.state.State.{State}

-- ---- kinds of tokens

-- words that begin a statement, a declaration or a head, and the brace that ends a block
abbrev pub is_first : Kind → Bool
is_first k.CloseBrace = true
is_first k.Filter = true
is_first k.Lock = true
is_first k.Queue = true
is_first k.Pre = true
is_first k.Post = true
is_first k.Canceled = true
is_first k.DeferredPre = true
is_first k.DeferredPost = true
is_first k.Generic = true
is_first k.Value = true
is_first k.If = true
is_first k.Repeat = true
is_first k.Return = true
is_first _ = false

-- calls that are statements
abbrev pub is_plain_call : Kind → Bool
is_plain_call kind = is_some (plain_shape_of kind)

-- variables that a statement may set
abbrev pub is_set : Kind → Bool
is_set k.N0 = true
is_set k.N1 = true
is_set k.N2 = true
is_set k.N3 = true
is_set k.N4 = true
is_set k.N5 = true
is_set k.N6 = true
is_set k.N7 = true
is_set k.C0 = true
is_set k.C1 = true
is_set k.C2 = true
is_set k.C3 = true
is_set k.C4 = true
is_set k.C5 = true
is_set k.C6 = true
is_set k.C7 = true
is_set k.Arg = true
is_set k.O0 = true
is_set k.O1 = true
is_set k.O2 = true
is_set k.O3 = true
is_set _ = false

-- what may begin a statement, a declaration or a head, and the brace that ends a block
abbrev pub may_begin : Kind → Bool
may_begin kind = is_first kind || (is_plain_call kind || is_set kind)

-- words other than calls' that an operand, a call or a test follows
abbrev pub is_followed : Kind → Bool
is_followed k.Assign = true
is_followed k.Equal = true
is_followed k.NotEqual = true
is_followed k.Less = true
is_followed k.Plus = true
is_followed k.Minus = true
is_followed k.Value = true
is_followed k.File = true
is_followed k.If = true
is_followed k.Context = true
is_followed k.KeepIfExists = true
is_followed k.ReplaceIfExists = true
is_followed k.Old = true
is_followed k.As = true
is_followed _ = false

-- whether the first slot of a call is a variable's
abbrev pub takes_variable : List Slot → Bool
takes_variable (part.Operation ∷ slots) = true
takes_variable (part.Removed ∷ slots) = true
takes_variable (part.Context ∷ slots) = true
takes_variable _ = false

-- what an operand, a call or a test follows, which begins nothing
abbrev pub wants_more : Kind → Bool
wants_more kind = is_followed kind || takes_variable (slots_of kind)

-- how many words follow a word other than a call's whatever they are, the last of them a name
abbrev pub names_declared : Kind → ℕ
names_declared k.Filter = 1
names_declared k.Lock = 2
names_declared k.DeferredPre = 1
names_declared k.DeferredPost = 1
names_declared k.Generic = 1
names_declared _ = 0

-- whether a name fills a slot
abbrev pub is_name : Slot → Bool
is_name part.Routine = true
is_name (part.Lock kind) = true
is_name _ = false

-- how many words behind the word of a call its name is, if it has one
abbrev pub name_among : List Slot → ℕ
name_among slots = option_map_or (λ at. at + 1) (position is_name slots) 0

-- how many words follow a word whatever they are, the last of them a name
abbrev pub names_after : Kind → ℕ
names_after kind = if names_declared kind == 0 then name_among (slots_of kind) else names_declared kind

-- the brace that begins a block
abbrev pub opens : Kind → Bool
opens k.OpenBrace = true
opens _ = false

-- the brace that ends a block
abbrev pub closes : Kind → Bool
closes k.CloseBrace = true
closes _ = false

-- ---- states

-- before the first item
abbrev pub start : State
start = record { place = place.Nothing; level = 0; names = 0; goes_on = false }

-- whether a token begins a statement, a declaration or a head, or ends a block
abbrev pub begins : State → Kind → Bool
begins s kind = s.names == 0 && (not s.goes_on && may_begin kind)

-- the state after a token
abbrev pub past_token : State → Kind → State
past_token s kind =
    record {
      place = place.Token;
      level = if opens kind then s.level + 1 else (if closes kind then s.level - 1 else s.level);
      names = if s.names == 0 then names_after kind else s.names - 1;
      goes_on = s.names == 0 && wants_more kind;
    }

-- the state after a comment
abbrev pub past_comment : State → State
past_comment s = record { place = place.Comment; level = s.level; names = s.names; goes_on = s.goes_on }

-- whether a comment is the last item
abbrev pub is_comment : Place → Bool
is_comment place.Comment = true
is_comment _ = false

-- what is laid on a line of its own, or beside the token before it: a blank line before a line stays
abbrev pub on_line : Bool → Space → Space
on_line own space.First = space.First
on_line false x = space.Beside
on_line true space.Apart = space.Apart
on_line true x = space.Below

-- where a token is laid: on a line of its own if it begins one, or after a comment
abbrev pub placed : State → Kind → Space → Space
placed s kind x = on_line (begins s kind || is_comment s.place) x

-- how deep a token is that is the first of its line: one deeper where the statement began on a line before
abbrev pub depth : State → Kind → ℕ
depth s kind = if begins s kind then (if closes kind then s.level - 1 else s.level) else s.level + 1

-- ---- the text

-- the beginning of the next line
abbrev pub new_line : ℕ → Text
new_line level = 10 ∷ indentation level

-- what is written before an item
abbrev pub gap : Space → ℕ → Text
gap space.First level = []
gap space.Beside level = 32 ∷ []
gap space.Below level = new_line level
gap space.Apart level = 10 ∷ new_line level

-- a last line ends with a line feed
abbrev pub ending : Place → Text
ending place.Nothing = []
ending _ = 10 ∷ []

-- the items, each after what is written before it, and the end of the last line
abbrev pub text_from : State → List Item → Text
text_from s [] = ending s.place
text_from s (a_token x v w ∷ is) = gap (placed s v.kind x) (depth s v.kind) ++ (w ++ text_from (past_token s v.kind) is)
text_from s (a_comment x c ∷ is) = gap x s.level ++ (c ++ text_from (past_comment s) is)

-- the layout of a text
unfoldable pub laid_out : Text → Text
laid_out z = text_from start (items z)

-- items where the layout has them: a comment where it was, a token where it is laid
abbrev pub settled : State → List Item → List Item
settled s [] = []
settled s (a_token x v w ∷ is) = a_token (placed s v.kind x) v w ∷ settled (past_token s v.kind) is
settled s (a_comment x c ∷ is) = a_comment x c ∷ settled (past_comment s) is
