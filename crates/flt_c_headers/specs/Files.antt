-- The tokens of a file without its end, by a table of texts. This project's own rule.
use Rattle.std.specs.Prelude.{◌≡◌, ◌-◌, ◌≤◌, List, ◌++◌, length, map, take}
use Rattle.flt_c_tokens.specs.Bytes.{Text}
use Rattle.flt_c_tokens.specs.Spelled.{max_spellings}
use Rattle.flt_c_tokens.specs.Tokens.{max_file, numbered, tokens, with_texts}
use Rattle.flt_c_tokens.specs.declared.token.Token.{Token}

-- the table behind a text: the texts before it, and its new ones
abbrev pub texts_after : List Text → Text → List Text
texts_after known z = with_texts known (tokens z)

-- its tokens by this table, but for the last one, which is its end
abbrev pub but_last : List Token → List Token
but_last ts = take (length ts - 1) ts

unfoldable pub tokens_after : List Text → Text → List Token
tokens_after known z = but_last (map (numbered (texts_after known z)) (tokens z))

-- it isn't too large, and its texts have room in the table
pub record Fits (known : List Text) (z : Text) : Type 0 where
  pub small : length z ≤ max_file
  pub few : length (texts_after known z) ≤ max_spellings

-- the tokens of a text are added to others
pub record Adds (known : List Text) (z : Text) (before : List Token) (next : List Text) (after : List Token) : Type 0 where
  pub fits : Fits known z
  pub texts : next ≡ texts_after known z
  pub tokens : after ≡ before ++ tokens_after known z
