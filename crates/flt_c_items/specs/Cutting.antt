-- How the tokens of a file are cut into chunks, token by token. This project's own rule.
use Rattle.std.specs.Prelude.{◌≡◌, ◌<◌, ℕ, ◌+◌, ◌-◌, ◌^◌, min, Bool, false, not, ◌&&◌, ◌||◌, if◌then◌else◌, ◌==◌, nat_lt}
use Rattle.std.specs.Prelude.{List, [], ◌∷◌, ◌++◌, length, option_to_list, Option, Some, None}
use Rattle.flt_c_tokens.specs.declared.token.Kind.{Kind}
use Rattle.flt_c_tokens.specs.declared.token.Kind.TheVariants as k
use Rattle.flt_c_tokens.specs.declared.token.Token.{Token}
use Rattle.flt_c_items.specs.Kinds.{same_kind, is_group, opens, closes, begins, ends_front}
use Rattle.flt_c_items.specs.Fronts.{front_from, advanced}
use Rattle.flt_c_items.specs.Groups.{turned}
use Rattle.flt_c_items.specs.declared.chunk.Chunk.{Chunk}
use Rattle.flt_c_items.specs.declared.chunk.Ending.{Ending}
use Rattle.flt_c_items.specs.declared.chunk.Ending.TheVariants.{Body, Sentence, Passed, Unread}
use Rattle.flt_c_items.specs.declared.chunk.Reason.TheVariants as reason
use Rattle.flt_c_items.specs.declared.front.Form.{Form}
use Rattle.flt_c_items.specs.declared.front.Form.TheVariants as form
use Rattle.flt_c_items.specs.declared.front.Front.{Front}
use Rattle.flt_c_items.specs.declared.state.Closing.{Closing}
use Rattle.flt_c_items.specs.declared.state.Closing.TheVariants as closing
use Rattle.flt_c_items.specs.declared.state.State.{State}
use Rattle.flt_c_items.specs.declared.words.Words.{Words}

-- the state at the front of a chunk
abbrev pub fresh : ℕ → ℕ → State
fresh from regions =
    record { front = front_from from; second = None; groups = []; closing = closing.Nothing; body = 0; regions = regions }

-- ---- how a chunk ends before a token

-- a `;` ends it, or nothing does
abbrev pub sentence : Form → Ending
sentence form.Foreign = Unread reason.Foreign
sentence _ = Sentence

-- the chunk may end outside of brackets alone
abbrev pub left : Front → Ending
left front = if front.depth == 0 then sentence front.form else Unread reason.Unclosed

-- a brace behind this front opens a function's body
abbrev pub is_head_by : Form → ℕ → Bool
is_head_by form.Head depth = depth == 0
is_head_by _ depth = false

abbrev pub is_head : Front → Bool
is_head front = is_head_by front.form front.depth

-- a chunk that has tokens ends before the end of the file, and before an `#else` whose `#if` stands before the chunk
abbrev pub ends_before : State → ℕ → Token → Bool
ends_before s at t =
    nat_lt s.front.from at && (same_kind t.kind k.End || same_kind t.kind k.GroupElse && length s.groups == 0)

-- Brackets of a chunk aren't closed if the next function's body begins: its head is the second front, before which the chunk ends.
abbrev pub cut_off_by : Option Front → Kind → Option Front
cut_off_by None kind = None
cut_off_by (Some second) kind = if same_kind kind k.OpenBrace && is_head second then Some second else None

abbrev pub cut_off : State → Kind → Option Front
cut_off s kind = cut_off_by s.second kind

-- the chunk that ends before a token, if one does, and the state then
abbrev pub broken_by : Option Front → State → ℕ → Token → Option Chunk × State
broken_by (Some second) s at t = (
  Some (record { from = s.front.from; to = second.from; ending = Unread reason.Unclosed }),
  record { front = second; second = None; groups = []; closing = closing.Nothing; body = 0; regions = s.regions },
)
broken_by None s at t =
    if ends_before s at t
    then (Some (record { from = s.front.from; to = at; ending = left s.front }), fresh at s.regions)
    else (None, s)

unfoldable pub broken : State → ℕ → Token → Option Chunk × State
broken s at t = broken_by (cut_off s t.kind) s at t

-- ---- how a chunk ends with a token

-- outside of brackets: the brace of a region
abbrev pub ending_open : Form → Option Ending
ending_open form.Region = Some Passed
ending_open _ = None

-- a `}`, which may be a region's
abbrev pub ending_close : Form → ℕ → Ending
ending_close form.Empty regions = if nat_lt 0 regions then Passed else Unread reason.Unopened
ending_close _ regions = Unread reason.Unopened

-- a line of an `#if` before a chunk's first token, and the end of the file, are chunks by themselves
abbrev pub ending_alone : Form → Kind → Option Ending
ending_alone form.Empty kind = if is_group kind || same_kind kind k.End then Some Passed else None
ending_alone _ kind = None

abbrev pub ending_outside : Kind → Form → ℕ → Option Ending
ending_outside k.Semicolon form regions = Some (sentence form)
ending_outside k.OpenBrace form regions = ending_open form
ending_outside k.CloseBrace form regions = Some (ending_close form regions)
ending_outside kind form regions = ending_alone form kind

-- with the token that closes the chunk's brackets
abbrev pub ending_closed_by : Closing → State → Option Ending
ending_closed_by closing.Nothing s = None
ending_closed_by closing.Body s = Some (Body s.front.name s.front.bracket s.body)
ending_closed_by (closing.Unread why) s = Some (Unread why)

abbrev pub ending_closed : State → Option Ending
ending_closed s = ending_closed_by s.closing s

abbrev pub ending : State → Kind → Option Ending
ending s kind =
    if s.front.depth == 0 then ending_outside kind s.front.form s.regions
    else (if closes kind && s.front.depth == 1 then ending_closed s else None)

-- the regions that are open behind a token with which a chunk ends
abbrev pub regions_after : State → Kind → ℕ
regions_after s kind =
    if nat_lt 0 s.front.depth then s.regions
    else (if same_kind kind k.OpenBrace then min (s.regions + 1) (2 ^ 64 - 1)
    else (if same_kind kind k.CloseBrace then s.regions - 1 else s.regions))

-- ---- one more token of a chunk

-- what the brace does that closes one behind a front
abbrev pub opened_by : Form → Kind → Closing
opened_by form.Head before = closing.Body
opened_by form.Empty before = closing.Unread reason.Headless
opened_by form.Divided before = closing.Unread reason.Divided
opened_by form.Foreign before = closing.Unread reason.Foreign
opened_by form.Plain before = if same_kind before k.OpenParen then closing.Unread reason.Headless else closing.Nothing
opened_by _ before = closing.Nothing

abbrev pub opened : Front → Closing
opened front = opened_by front.form front.before.kind

abbrev pub closing_after : State → Kind → Closing
closing_after s kind =
    if nat_lt 0 s.front.depth || not (opens kind) then s.closing
    else (if same_kind kind k.OpenBrace then opened s.front else closing.Nothing)

-- A second front begins in brackets, behind the chunk's first token, with a word in column 1, and ends with `;`, `{` or `}`.
abbrev pub second_by : Option Front → Words → ℕ → ℕ → Token → Option Front
second_by (Some front) words from at t = Some (advanced words front at t)
second_by None words from at t =
    if nat_lt from at && (begins t.kind && t.column == 1) then Some (advanced words (front_from at) at t) else None

abbrev pub second_after : Words → State → ℕ → Token → Option Front
second_after words s at t = if ends_front t.kind then None else second_by s.second words s.front.from at t

-- the state behind one more token of the chunk
unfoldable pub going_on : Words → State → ℕ → Token → State
going_on words s at t =
    let turn = turned t.kind s.front.depth s.groups in
    record {
      front = record (advanced words s.front at t) { depth = turn.0 };
      second = if turn.0 == 0 then None else second_after words s at t;
      groups = turn.1;
      closing = closing_after s t.kind;
      body = if s.front.depth == 0 && same_kind t.kind k.OpenBrace then at else s.body;
      regions = s.regions;
    }

-- the chunk that ends with a token, if one does, and the state then
abbrev pub taken_by : Option Ending → Words → State → ℕ → Token → Option Chunk × State
taken_by (Some ending) words s at t =
    (Some (record { from = s.front.from; to = at + 1; ending = ending }), fresh (at + 1) (regions_after s t.kind))
taken_by None words s at t = (None, going_on words s at t)

unfoldable pub taken : Words → State → ℕ → Token → Option Chunk × State
taken words s at t = taken_by (ending s t.kind) words s at t

-- ---- all tokens

-- the chunks that end before a token or with it, and the state then
abbrev pub stepped : Words → State → ℕ → Token → List Chunk × State
stepped words s at t =
    let before = broken s at t in
    let with = taken words before.1 at t in
    (option_to_list before.0 ++ option_to_list with.0, with.1)

-- behind the last token a chunk is left, if it has tokens
abbrev pub rest_of : State → ℕ → List Chunk
rest_of s at =
    if nat_lt s.front.from at then record { from = s.front.from; to = at; ending = left s.front } ∷ [] else []

-- the chunks of the tokens from a state on; `at` tokens stand before them
abbrev pub chunks_from : Words → State → ℕ → List Token → List Chunk
chunks_from words s at [] = rest_of s at
chunks_from words s at (t ∷ ts) =
    let step = stepped words s at t in step.0 ++ chunks_from words step.1 (at + 1) ts

-- the chunks of a file
unfoldable pub chunks : Words → List Token → List Chunk
chunks words ts = chunks_from words (fresh 0 0) 0 ts

-- ---- no token is left out

-- chunks that stand one behind the other, the first behind `from` tokens and the last up to `to`; none is empty
abbrev pub Follow : ℕ → List Chunk → ℕ → Type 0
Follow from [] to = from ≡ to
Follow from (c ∷ cs) to = (c.from ≡ from) × ((from < c.to) × Follow c.to cs to)
