-- The laws of the layout.
use Rattle.std.specs.Prelude.{◌≡◌, ◌≤◌, Bool, false, if◌then◌else◌, List, [], ◌∷◌, map, length}
use Rattle.flt_tree.specs.Names.{Text}
use Rattle.flt_rules.specs.Limits.{max_text}
use Rattle.flt_tree.specs.declared.filter.Filter.{Filter}
use Rattle.flt_syntax.specs.Cursor.{bytes_of}
use Rattle.flt_syntax.specs.Lex.{word, is_fault, tokens}
use Rattle.flt_syntax.specs.Spelling.{Spells}
use Rattle.flt_syntax.specs.declared.token.Kind.TheVariants as k
use Rattle.flt_syntax.specs.declared.token.Token.{Token}
use Rattle.flt_syntax.specs.declared.token.Word.{Word}
use Rattle.flt_print.specs.Reprinting.{without_places}
use Rattle.flt_layout.specs.Items.{Item, a_token, a_comment, items, comments_of}
use Rattle.flt_layout.specs.Layout.{start, settled, laid_out}

-- the layout of a text has its tokens and its comments, in order, each comment where it was and each token where it is laid
abbrev pub KeepsItems : Type 0
KeepsItems = (z : Text) → items (laid_out z) ≡ settled start (items z)

-- laying out twice is laying out once
abbrev pub IsLaidOutOnce : Type 0
IsLaidOutOnce = (z : Text) → laid_out (laid_out z) ≡ laid_out z

-- each comment is there once, in order: on the line of a token, or on a line of its own, below a blank line or not, as it was
abbrev pub KeepsComments : Type 0
KeepsComments = (z : Text) → comments_of (items (laid_out z)) ≡ comments_of (items z)

-- a token apart from its place: its word and its bytes
abbrev pub word_and_bytes : Text → Token → Word × Text
word_and_bytes text t = (t.word, bytes_of text t)

-- the tokens among items apart from their places, and the end of the text unless the last of them is a fault
abbrev pub words_among : Bool → List Item → List (Word × Text)
words_among fault [] = if fault then [] else (word k.End, []) ∷ []
words_among fault (a_token x v w ∷ is) = (v, w) ∷ words_among (is_fault v.kind) is
words_among fault (a_comment x c ∷ is) = words_among fault is

-- the tokens of a text are those among its items
abbrev pub TokensAreItems : Type 0
TokensAreItems = (z : Text) → map (word_and_bytes z) (tokens z) ≡ words_among false (items z)

-- the layout of a text has its tokens, apart from their places
abbrev pub KeepsTokens : Type 0
KeepsTokens = (z : Text) → map (word_and_bytes (laid_out z)) (tokens (laid_out z)) ≡ map (word_and_bytes z) (tokens z)

-- the layout of a text spells what the text spells, apart from places, if it is not too long
abbrev pub KeepsTree : Type 0
KeepsTree = (z : Text) (f : Filter) → Spells z f → length (laid_out z) ≤ max_text →
    (g : Filter) × Spells (laid_out z) g × (without_places g ≡ without_places f)
