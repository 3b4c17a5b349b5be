-- The blocks of a text, by its braces.
use Rattle.std.specs.Prelude.{ℕ, ◌+◌, ◌-◌, if◌then◌else◌, nat_lt, List, [], ◌∷◌, ◌++◌, Option, Some, None, option_to_list}
use Rattle.flt_server_outline.specs.declared.blocks.Fold.{Fold}
use Rattle.flt_syntax.specs.declared.token.Kind.{Kind}
use Rattle.flt_syntax.specs.declared.token.Kind.TheVariants as k
use Rattle.flt_syntax.specs.declared.token.Token.{Token}

-- how deep blocks nest behind a token. A closing brace without an opening one changes nothing
abbrev pub depth_after : ℕ → Kind → ℕ
depth_after depth k.OpenBrace = depth + 1
depth_after depth k.CloseBrace = depth - 1
depth_after depth _ = depth

-- the lines of a block between two braces, from 0: from the opening brace's up to the last before the closing brace's. It has two at least
abbrev pub fold_between : Token → Token → Option Fold
fold_between begin end =
    if nat_lt (begin.position.line - 1) (end.position.line - 2)
    then Some (record { first = begin.position.line - 1; last = end.position.line - 2 }) else None

-- ---- open braces, the innermost last

-- the innermost
abbrev pub innermost : List Token → Option Token
innermost [] = None
innermost (t ∷ []) = Some t
innermost (t ∷ u ∷ ts) = innermost (u ∷ ts)

-- those round it
abbrev pub others : List Token → List Token
others [] = []
others (t ∷ []) = []
others (t ∷ u ∷ ts) = t ∷ others (u ∷ ts)

-- the open braces behind a token
abbrev pub open_after : List Token → Token → Kind → List Token
open_after opened t k.OpenBrace = opened ++ t ∷ []
open_after opened t k.CloseBrace = others opened
open_after opened t _ = opened

-- ---- folds

abbrev pub folds_if : Option Token → Token → List Fold
folds_if None end = []
folds_if (Some begin) end = option_to_list (fold_between begin end)

-- the folds that a token ends
abbrev pub folds_at : List Token → Token → Kind → List Fold
folds_at opened t k.CloseBrace = folds_if (innermost opened) t
folds_at opened t _ = []

-- the folds of tokens, where these braces are open before them
abbrev pub folds_from : List Token → List Token → List Fold
folds_from opened [] = []
folds_from opened (t ∷ ts) = folds_at opened t t.word.kind ++ folds_from (open_after opened t t.word.kind) ts
