-- Pages, and the words on them. This project's own program.
use Rattle.std.specs.Prelude.{◌≡◌, ℕ, ◌==◌, if◌then◌else◌, List, [], ◌∷◌, ◌++◌, Option, Some, None, codes, flat_map}
use Rattle.std.specs.Prelude.{OnOk, Result}
use Rattle.std.specs.Borrow.{Bor}
use Rattle.std.specs.Fmt.{decimal}
use Rattle.flt_places.specs.Files.{file_at, file_line, file_name}
use Rattle.flt_places.specs.declared.files.Files.{Files}
use Rattle.flt_shown.specs.Shown.{shown}
use Rattle.flt_tree.specs.Names.{Text}
use Rattle.flt_explain_texts.specs.declared.page.Page.{Page}
use Rattle.flt_explain_texts.specs.declared.page.Part.{Part}
use Rattle.flt_explain_texts.specs.declared.page.Part.TheVariants as part

-- these bytes stand behind what was written
abbrev pub Writes : {E : Type 0} → Result (Unit {0}) E → Page → Page → Text → Type 0
Writes r old new z = OnOk r (new.out.items ≡ old.out.items ++ z)

-- words of the program, one behind the other
abbrev pub joined : List (Bor Text) → Text
joined = flat_map (λ (t : Bor Text). t.now)

-- words of a text among those
abbrev pub all_shown : List (Bor Text) → Text
all_shown = flat_map (λ (t : Bor Text). shown t.now)

-- a number's digits, if there is one
abbrev pub maybe_decimal : Option ℕ → Text
maybe_decimal None = []
maybe_decimal (Some n) = decimal n

-- words of the program, with a number behind each as long as there are some
abbrev pub numbered : List (Bor Text) → List ℕ → Text
numbered [] ns = []
numbered (t ∷ ts) [] = t.now ++ numbered ts []
numbered (t ∷ ts) (n ∷ ns) = t.now ++ (decimal n ++ numbered ts ns)

-- words of a text between marks
abbrev pub quoted : Text → Text
quoted z = codes "`" ++ (shown z ++ codes "`")

-- a word of the language between marks
abbrev pub marked : Text → Text
marked z = codes "`" ++ (z ++ codes "`")

-- the name of a file before a line of it; nothing where it is the file of this number
abbrev pub file_told : Files → ℕ → ℕ → Text
file_told files home file = if file == home then [] else shown (file_name files file) ++ codes ":"

-- a line of a text by its number in its file
abbrev pub line_told : Files → ℕ → ℕ → Text
line_told files home line = file_told files home (file_at files line) ++ decimal (file_line files line)

-- a part of a sentence
abbrev pub said : Part → Text
said (part.Text t) = t.now
said (part.Quoted name) = quoted name.now
said (part.Word w) = marked w.now
said (part.Marked m) = shown m.0.now ++ (shown m.1.now ++ shown m.0.now)
said (part.Number n) = decimal n
said (part.Line files home line) = line_told files home line
said (part.Value n) = decimal n
