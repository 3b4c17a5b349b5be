-- What the exit status 0 is worth: no run of the machine on the text breaks anything. This project's own program.
use Rattle.std.specs.Prelude.{◌≡◌, ℕ, List, [], ◌∷◌, None, take}
use Rattle.flt_syntax.specs.Spelling.{Spells}
use Rattle.flt_tree.specs.declared.filter.Filter.{Filter}
use Rattle.flt_model.specs.Program.{by_altitude}
use Rattle.flt_model.specs.Runs.{breaks}
use Rattle.flt_model.specs.Steps.{Transition}
use Rattle.flt_files.specs.Inputs.{Text}
use Rattle.flt_syntax.specs.Texts.{AreSpelled}
use Rattle.flt_files.specs.Split.{IsCertificateStart}
use Rattle.flt_words.specs.Request.{Asked, Check, Analyse, Thin, Run, Replay, Show, Explain}
use Rattle.flt_words.specs.Request.{Extract, Format, Pages, Emit, EmitInto, Compare, Functions, Serve}

-- the filter that the text spells breaks nothing: whatever transitions are tried on it, in whatever order and however many
abbrev pub BreaksNothing : Text → Type 0
BreaksNothing text = (f : Filter) (transitions : List Transition) → Spells text f → breaks (f ∷ []) transitions ≡ None

-- nor do the filters that several texts spell, in one stack
abbrev pub BreakNothing : List Text → Type 0
BreakNothing texts = (filters : List Filter) (transitions : List Transition) → AreSpelled texts filters →
    breaks (by_altitude filters) transitions ≡ None

-- each text breaks nothing by itself
abbrev pub EachBreaksNothing : List Text → Type 0
EachBreaksNothing [] = Unit {0}
EachBreaksNothing (text ∷ texts) = BreaksNothing text × EachBreaksNothing texts

-- so does the text in what was read: the bytes of FILE up to its certificate, or FILE with CERT beside it, or FILE that was analysed or is
-- emitted; or each FILE behind a script, all in one stack; or each FILE that was explained.
-- Of a journal nothing is said: its own verdict says it;
-- nor is there of a page, of C files, or of a text that is laid out
abbrev pub IsClean : Asked → List Text → Type 0
IsClean (Check file cert) (bytes ∷ []) = (start : ℕ) × IsCertificateStart bytes start × BreaksNothing (take start bytes)
IsClean (Check file cert) (text ∷ certificate ∷ []) = BreaksNothing text
IsClean (Analyse file) (text ∷ []) = BreaksNothing text
IsClean (Thin file cert) (bytes ∷ []) = (start : ℕ) × IsCertificateStart bytes start × BreaksNothing (take start bytes)
IsClean (Thin file cert) (text ∷ certificate ∷ []) = BreaksNothing text
IsClean (Run workers quiet script files) (bytes ∷ texts) = BreakNothing texts
IsClean (Replay journal files) texts = Unit {0}
IsClean (Show timeline picture journal files) texts = Unit {0}
IsClean (Explain form colour search journal warnings is_c files) texts = EachBreaksNothing texts
IsClean (Extract of_map files) texts = Unit {0}
IsClean (Format mode files) texts = Unit {0}
IsClean (Pages names) texts = Unit {0}
IsClean (Compare files) texts = Unit {0}
IsClean (Functions defined undefined folders files) texts = Unit {0}
IsClean (Emit part file cert) (text ∷ []) = BreaksNothing text
IsClean (Emit part file cert) (text ∷ certificate ∷ []) = BreaksNothing text
IsClean (EmitInto folder is_forced file cert) (text ∷ []) = BreaksNothing text
IsClean (EmitInto folder is_forced file cert) (text ∷ certificate ∷ []) = BreaksNothing text
IsClean Serve texts = Unit {0}
IsClean _ _ = ⊥
