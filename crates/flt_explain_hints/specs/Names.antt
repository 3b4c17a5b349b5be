-- The names that a text declares, and names that it hasn't. This project's own program.
use Rattle.std.specs.Prelude.{◌≡◌, ℕ, ◌+◌, ◌≤◌, Bool, true, false, not, ◌&&◌, ◌||◌, if◌then◌else◌}
use Rattle.std.specs.Prelude.{nat_eq, nat_lt, List, [], ◌∷◌, ◌++◌, length}
use Rattle.std.specs.List.{starts_with}
use Rattle.std.specs.Str.{bytes_eq}
use Rattle.flt_syntax.specs.Cursor.{is_word, bytes_of}
use Rattle.flt_syntax.specs.Lex.{lookup}
use Rattle.flt_syntax.specs.Vocabulary.{vocabulary}
use Rattle.flt_syntax.specs.declared.token.Kind.{Kind}
use Rattle.flt_syntax.specs.declared.token.Kind.TheVariants as k
use Rattle.flt_syntax.specs.declared.token.Token.{Token}
use Rattle.flt_tree.specs.Names.{Text, has_name, is_name}
use Rattle.flt_tree.specs.Names as spelling
use Rattle.flt_explain_hints.specs.Spot.{tokens_of}

-- ---- names that a text declares

-- whether the name of a lock or a routine follows a word
abbrev pub declares : Kind → Bool
declares k.Spin = true
declares k.Fast = true
declares k.Push = true
declares k.DeferredPre = true
declares k.DeferredPost = true
declares k.Generic = true
declares _ = false

-- the words among some tokens that stand right behind one that a name follows, given the kind of the token before them
abbrev pub names_behind : Text → Kind → List Token → List Text
names_behind text before [] = []
names_behind text before (t ∷ ts) =
    if declares before && is_word t.word.kind then bytes_of text t ∷ names_behind text t.word.kind ts
    else names_behind text t.word.kind ts

-- how many names are looked at: a text that parses declares fewer
abbrev pub max_names : ℕ
max_names = 32

-- whether a name is looked at behind others: it is none of them, and they aren't enough
abbrev pub is_looked_at : List Text → Text → Bool
is_looked_at others name = nat_lt (length others) max_names && not (has_name name others)

-- those of some names that are looked at behind others: each once, where it stands first
abbrev pub each_once : List Text → List Text → List Text
each_once others [] = []
each_once others (n ∷ ns) = if is_looked_at others n then n ∷ each_once (others ++ n ∷ []) ns else each_once others ns

-- the names of locks and routines that a text declares, each once, in their order, as many as are looked at
unfoldable pub declared_names : Text → List Text
declared_names text = each_once [] (names_behind text k.End (tokens_of text))

-- whether one of some tokens is a name that is declared there, given the kind of the token before them
abbrev pub is_declared_behind : Text → Text → Kind → List Token → Bool
is_declared_behind text name before [] = false
is_declared_behind text name before (t ∷ ts) =
    (declares before && bytes_eq (bytes_of text t) name) || is_declared_behind text name t.word.kind ts

-- whether a text declares a lock or a routine of a name, by its tokens
unfoldable pub declares_name : Text → List Token → Text → Bool
declares_name text tokens name = is_declared_behind text name k.End tokens

-- ---- names that stand nowhere in a text

-- how often bytes stand in a text
abbrev pub occurrences : Text → Text → ℕ
occurrences word [] = 0
occurrences word (b ∷ z) = (if starts_with nat_eq (b ∷ z) word then 1 else 0) + occurrences word z

-- a name that is no word of the language and stands nowhere in a text, not even within a longer one
pub record IsNew (text : Text) (name : Text) : Type 0 where
  pub named : is_name name ≡ true
  pub no_word : lookup vocabulary name ≡ k.Name
  pub nowhere : occurrences name text ≡ 0

-- a name with a letter behind it, with which it stands in a text at most half as often
pub record IsRarer (text : Text) (name longer : Text) : Type 0 where
  pub letter : ℕ
  pub spelled : spelling.is_word letter ≡ true
  pub longer_by : longer ≡ name ++ letter ∷ []
  pub rarer : occurrences longer text + occurrences longer text ≤ occurrences name text
