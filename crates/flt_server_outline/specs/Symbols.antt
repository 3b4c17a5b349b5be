-- The symbols of a text.
use Rattle.std.specs.Prelude.{ℕ, Bool, true, false, ◌&&◌, ◌==◌, if◌then◌else◌, nat_le}
use Rattle.std.specs.Prelude.{List, [], ◌∷◌, ◌++◌, Option, Some, None, option_to_list}
use Rattle.flt_server_outline.specs.Blocks.{depth_after}
use Rattle.flt_server_outline.specs.declared.roles.MarkedToken.{MarkedToken}
use Rattle.flt_server_outline.specs.declared.roles.NameOf.TheVariants as name
use Rattle.flt_server_outline.specs.declared.roles.Role.{Role}
use Rattle.flt_server_outline.specs.declared.roles.Role.TheVariants as role
use Rattle.flt_server_outline.specs.declared.symbols.Part.{Part}
use Rattle.flt_server_outline.specs.declared.symbols.Symbol.{Symbol}
use Rattle.flt_server_outline.specs.declared.symbols.SymbolKind.TheVariants as s
use Rattle.flt_syntax.specs.Cursor.{is_word}
use Rattle.flt_syntax.specs.declared.token.Kind.{Kind}
use Rattle.flt_syntax.specs.declared.token.Kind.TheVariants as k
use Rattle.flt_syntax.specs.declared.token.Token.{Token}

-- from the first byte of a token up to the last of another
abbrev pub part_over : Token → Token → Part
part_over first last = record { start = first.start; end = last.end }

-- a callback's head begins with it
abbrev pub begins_callback : Kind → Bool
begins_callback k.Pre = true
begins_callback k.Post = true
begins_callback k.Canceled = true
begins_callback k.DeferredPre = true
begins_callback k.DeferredPost = true
begins_callback k.Generic = true
begins_callback _ = false

abbrev pub is_open_brace : Kind → Bool
is_open_brace k.OpenBrace = true
is_open_brace _ = false

abbrev pub is_close_brace : Kind → Bool
is_close_brace k.CloseBrace = true
is_close_brace _ = false

-- the brace that closes a block, behind tokens in it between which blocks nest so deep
abbrev pub closing : ℕ → List MarkedToken → Option Token
closing depth [] = None
closing depth (m ∷ ms) =
    if is_close_brace m.token.word.kind && nat_le depth 1 then Some m.token else closing (depth_after depth m.token.word.kind) ms

abbrev pub token_or : Token → Option Token → Token
token_or last None = last
token_or last (Some t) = t

-- the last token of a callback whose head ends with this one
abbrev pub end_of : Token → List MarkedToken → Token
end_of last [] = last
end_of last (m ∷ ms) = if is_open_brace m.token.word.kind then token_or last (closing 1 ms) else last

abbrev pub callback_over : Token → Token → List MarkedToken → Symbol
callback_over first last after = record {
  kind = s.Callback;
  name = part_over first last;
  whole = part_over first (end_of last after);
}

-- the callback that begins with a token. Its head has two tokens, or one if the next is no word
abbrev pub callback_at : Token → List MarkedToken → Symbol
callback_at first [] = callback_over first first []
callback_at first (m ∷ ms) =
    if is_word m.token.word.kind then callback_over first m.token ms else callback_over first first (m ∷ ms)

abbrev pub declares_lock : Role → Bool
declares_lock (role.Declared name.Lock) = true
declares_lock _ = false

-- the lock that begins with a token, if the second after it is its name
abbrev pub lock_at : Token → List MarkedToken → Option Symbol
lock_at first (kind ∷ name ∷ ms) =
    if declares_lock name.role
    then Some (record { kind = s.Lock; name = part_over name.token name.token; whole = part_over first name.token }) else None
lock_at first _ = None

abbrev pub lock_if : Kind → Token → List MarkedToken → Option Symbol
lock_if k.Lock first after = lock_at first after
lock_if _ first after = None

-- the symbol that begins with a word of the grammar
abbrev pub symbol_of : Token → List MarkedToken → Option Symbol
symbol_of first after =
    if begins_callback first.word.kind then Some (callback_at first after) else lock_if first.word.kind first after

abbrev pub symbol_by : Role → Token → List MarkedToken → Option Symbol
symbol_by role.Plain first after = symbol_of first after
symbol_by _ first after = None

-- the symbol that begins with the first of some tokens
abbrev pub symbol_at : List MarkedToken → Option Symbol
symbol_at [] = None
symbol_at (m ∷ ms) = symbol_by m.role m.token ms

abbrev pub symbol_if : ℕ → List MarkedToken → Option Symbol
symbol_if depth ms = if depth == 0 then symbol_at ms else None

-- the symbols of tokens, before which blocks nest so deep. Each is in no block
abbrev pub symbols_from : ℕ → List MarkedToken → List Symbol
symbols_from depth [] = []
symbols_from depth (m ∷ ms) =
    option_to_list (symbol_if depth (m ∷ ms)) ++ symbols_from (depth_after depth m.token.word.kind) ms
