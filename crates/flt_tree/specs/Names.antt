-- What a name is, and the names that a filter declares, in order of declaration.
use Rattle.std.specs.Prelude.{ℕ, Bool, false, not, ◌&&◌, ◌||◌, ◌==◌, nat_lt, List, [], ◌∷◌, ◌++◌, length, map}
use Rattle.std.specs.Char.{is_ascii_digit, is_ascii_alphanumeric}
use Rattle.std.specs.List.{list_all, list_any}
use Rattle.std.specs.Str.{bytes_eq}
use Rattle.flt_tree.specs.declared.filter.Callback.{Callback}
use Rattle.flt_tree.specs.declared.filter.Head.{Head}
use Rattle.flt_tree.specs.declared.filter.Head.TheVariants.{DeferredPre, DeferredPost, Generic}
use Rattle.flt_tree.specs.declared.filter.Lock.{Lock}

-- a text is its bytes
abbrev pub Text : Type 0
Text = List ℕ

-- letters, digits and `_`
abbrev pub is_word : ℕ → Bool
is_word b = is_ascii_alphanumeric b || b == 95

-- a word: a letter or `_`, then letters, digits and `_`, 64 bytes at most
abbrev pub is_name : Text → Bool
is_name [] = false
is_name (b ∷ z) = is_word b && (not (is_ascii_digit b) && (list_all is_word z && nat_lt (length z) 64))

-- whether a name is among others
abbrev pub has_name : Text → List Text → Bool
has_name name = list_any (bytes_eq name)

-- the names of locks
abbrev pub lock_names : List Lock → List Text
lock_names = map (λ l. l.name)

-- the name that a head declares, if it is a routine's
abbrev pub names_of : Head → List Text
names_of (DeferredPre name) = name ∷ []
names_of (DeferredPost name) = name ∷ []
names_of (Generic name) = name ∷ []
names_of _ = []

-- the names of the routines among callbacks
abbrev pub routine_names : List Callback → List Text
routine_names [] = []
routine_names (c ∷ cs) = names_of c.head ++ routine_names cs
