-- The names under which a header is looked for, in order. Compilers look beside the including file, and then in folders of options.
use Rattle.std.specs.List.{ends_with, list_any}
use Rattle.std.specs.Prelude.{ℕ, Bool, true, false, ◌||◌, if◌then◌else◌, ◌==◌, eqb, List, [], ◌∷◌, ◌++◌, codes, length, map}
use Rattle.std.specs.Prelude.{Option, Some, None}
use Rattle.flt_c_tokens.specs.Bytes.{Text, byte_at}

-- drivers write backslashes for slashes
abbrev pub slashed_byte : ℕ → ℕ
slashed_byte b = if b == 92 then 47 else b

abbrev pub slashed : Text → Text
slashed name = map slashed_byte name

-- a name up to its last slash, that one included
abbrev pub has_slash : Text → Bool
has_slash name = list_any (λ b. b == 47) name

abbrev pub folder_of : Text → Text
folder_of [] = []
folder_of (b ∷ z) = if has_slash (b ∷ z) then b ∷ folder_of z else []

-- a name in a folder
unfoldable pub in_folder : Text → Text → Text
in_folder dir name = if length dir == 0 || ends_with eqb dir (codes "/") then dir ++ name else dir ++ 47 ∷ name

-- beside the including file, where the name is in quotes
abbrev pub beside : Bool → Text → Text → List Text
beside true includer name = (folder_of includer ++ name) ∷ []
beside false includer name = []

-- The names for one that is included: of the folders of options, in their order, and the name of the including file.
unfoldable pub candidates_of : List Text → Text → Bool → Text → List Text
candidates_of folders includer in_quotes name =
    if byte_at name 0 == 47 then name ∷ []
    else beside in_quotes includer name ++ map (λ dir. in_folder dir name) folders

abbrev pub candidates : List Text → Text → (Bool × Text) → List Text
candidates folders includer i = candidates_of folders includer i.0 (slashed i.1)

-- those of a line, if it includes a name
abbrev pub candidates_if : List Text → Text → Option (Bool × Text) → List Text
candidates_if folders includer None = []
candidates_if folders includer (Some i) = candidates folders includer i
