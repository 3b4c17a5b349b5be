-- The names that a command reads. This project's own program.
use Rattle.std.specs.Prelude.{List, [], ◌∷◌, Some, None}
use Rattle.flt_files.specs.Inputs.{Text}
use Rattle.flt_words.specs.Request.{Asked, Check, Analyse, Thin, Run, Replay, Show, Explain}
use Rattle.flt_words.specs.Request.{Extract, Format, Pages, Emit, EmitInto, Compare, Functions, Serve}

-- the names that are read, in this order
abbrev pub names_of : Asked → List Text
names_of (Check file None) = file ∷ []
names_of (Check file (Some cert)) = file ∷ cert ∷ []
names_of (Analyse file) = file ∷ []
names_of (Thin file None) = file ∷ []
names_of (Thin file (Some cert)) = file ∷ cert ∷ []
names_of (Run workers quiet script files) = script ∷ files
names_of (Replay journal files) = journal ∷ files
names_of (Show timeline picture journal files) = journal ∷ files
names_of (Explain form colour states journal warnings is_c files) = files
names_of (Extract of_map files) = files
names_of (Format mode files) = files
names_of (Pages names) = []
names_of (Emit part file None) = file ∷ []
names_of (Emit part file (Some cert)) = file ∷ cert ∷ []
names_of (EmitInto folder is_forced file None) = file ∷ []
names_of (EmitInto folder is_forced file (Some cert)) = file ∷ cert ∷ []
names_of (Compare files) = files
names_of (Functions defined undefined folders files) = files
names_of Serve = []
