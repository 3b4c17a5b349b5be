-- Options as lines of directives. This project's own rule.
use Rattle.std.specs.Prelude.{◌==◌, if◌then◌else◌, List, [], ◌∷◌, ◌++◌, codes, map}
use Rattle.flt_c_tokens.specs.Bytes.{Text}
use Rattle.flt_c_functions.specs.declared.option.Options.{Options}

-- a blank in place of the first `=`; without one, the value is 1
abbrev pub with_value : Text → Text
with_value [] = codes " 1"
with_value (b ∷ z) = if b == 61 then 32 ∷ z else b ∷ with_value z

-- the line of a definition, NAME or NAME=VALUE
abbrev pub define_line : Text → Text
define_line z = codes "#define " ++ (with_value z ++ codes "\n")

-- the line that says that a name is no macro
abbrev pub undef_line : Text → Text
undef_line z = codes "#undef " ++ (z ++ codes "\n")

-- all lines: definitions first
abbrev pub lines_of : List Text → List Text → List Text
lines_of defined undefined = map define_line defined ++ map undef_line undefined

abbrev pub lines_by : Options → List Text
lines_by o = lines_of (map (λ z. z.now) o.defined.now) (map (λ z. z.now) o.undefined.now)

-- the folders in which headers are looked for
abbrev pub folders_by : Options → List Text
folders_by o = map (λ z. z.now) o.folders.now
