-- The class of each word: whether a `typedef` gives it, or else its look. This project's own rule.
use Rattle.std.specs.Char.{is_ascii_digit, is_ascii_uppercase}
use Rattle.std.specs.List.{count_by, list_all, list_any}
use Rattle.std.specs.Prelude.{ℕ, ◌+◌, Bool, ◌&&◌, ◌||◌, ◌==◌, if◌then◌else◌, List, [], ◌∷◌, flat_map, nat_lt, slice_set}
use Rattle.flt_c_tokens.specs.Bytes.{Text}
use Rattle.flt_c_items.specs.declared.item.Item.{Item}
use Rattle.flt_c_items.specs.declared.item.Part.{Part}
use Rattle.flt_c_items.specs.declared.item.Part.TheVariants as part
use Rattle.flt_c_syntax.specs.declared.class.Class.{Class}
use Rattle.flt_c_syntax.specs.declared.class.Class.TheVariants as class
use Rattle.flt_c_functions.specs.declared.source.Source.{Source}

-- ---- type names

-- the names that an item's `typedef` gives
abbrev pub names_of : Part → List ℕ
names_of (part.Types names) = names
names_of _ = []

abbrev pub names_in : List Item → List ℕ
names_in = flat_map (λ (i : Item). names_of i.part)

-- those of all files
abbrev pub type_names : List Source → List ℕ
type_names = flat_map (λ (s : Source). names_in s.items)

-- ---- looks

-- a capital, a digit or `_`
abbrev pub is_capital_byte : ℕ → Bool
is_capital_byte b = is_ascii_uppercase b || is_ascii_digit b || b == 95

abbrev pub is_upper : Text → Bool
is_upper = list_all is_capital_byte

abbrev pub capitals : Text → ℕ
capitals = count_by is_ascii_uppercase

-- at least two capitals, with digits and `_` alone
abbrev pub is_capital : Text → Bool
is_capital w = is_upper w && nat_lt 1 (capitals w)

-- the class of a word that no `typedef` gives
abbrev pub look : Text → Class
look w = if is_capital w then class.Capital else class.Plain

-- ---- classes

-- the class of a word by its number and its text
abbrev pub class_of : List ℕ → ℕ → Text → Class
class_of types n w = if list_any (λ t. t == n) types then class.Type else look w

-- those of words, of which the first has the number n
abbrev pub classes_from : List ℕ → ℕ → List Text → List Class
classes_from types n [] = []
classes_from types n (w ∷ ws) = class_of types n w ∷ classes_from types (n + 1) ws

-- the class of each word of a table, by the names that are types
unfoldable pub classes : List ℕ → List Text → List Class
classes types texts = classes_from types 0 texts

-- ---- a step

-- words are made types by their numbers, one after the other
abbrev pub marked : List ℕ → List Class → List Class
marked [] cs = cs
marked (n ∷ ns) cs = marked ns (slice_set cs n class.Type)
