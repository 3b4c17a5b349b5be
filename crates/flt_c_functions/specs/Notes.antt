-- Notes on directives and macros, in words. This project's own program.
use Rattle.std.specs.Prelude.{ℕ, if◌then◌else◌, List, [], ◌++◌, codes, flat_map}
use Rattle.flt_c_headers.specs.World.{File}
use Rattle.flt_c_tokens.specs.Bytes.{Text}
use Rattle.flt_c_macros.specs.declared.note.Note.{Note}
use Rattle.flt_c_macros.specs.declared.note.NoteKind.{NoteKind}
use Rattle.flt_c_macros.specs.declared.note.NoteKind.TheVariants as kind
use Rattle.flt_c_functions.specs.Lines.{place}
use Rattle.flt_c_functions.specs.Places.{file_name, is_told}
use Rattle.flt_c_functions.specs.Texts.{token_text}

-- a name that stays, and why
unfoldable pub unexpanded : Text → Text → Text
unexpanded name why = codes "not expanded: " ++ (name ++ why)

-- a note, with the text of its token
abbrev pub note_words : NoteKind → Text → Text
note_words kind.Malformed name = codes "not read: this line of a directive"
note_words kind.Keyword name = codes "not read: a keyword is no macro"
note_words kind.OpenGroup name = codes "not read: this #if has no #endif"
note_words kind.NoGroup name = codes "not read: no #if is open here"
note_words kind.Header name = codes "not read: this header is too large, too deep, or one too many"
note_words kind.Large name = unexpanded name (codes ": too many tokens, or too many macros within each other")
note_words kind.Parameters name = unexpanded name (codes ": a macro has # or ##")
note_words kind.Arguments name = unexpanded name (codes ": the macro has another number of parameters")
note_words kind.Open name = unexpanded name (codes ": its brackets are not closed before a directive or the end")
note_words kind.Undecided name = unexpanded name (codes ": an #if decides what a macro is")

-- the line of a note, at its token
unfoldable pub note_line : List Text → Text → Note → Text
note_line texts name n = place name n.at ++ (note_words n.kind (token_text texts n.at) ++ codes "\n")

-- one in a header is told once
abbrev pub note_text : List Text → List File → List ℕ → Text → Note → Text
note_text texts headers told name n =
    if is_told headers told n.at then [] else note_line texts (file_name headers name n.at) n

-- those of notes, of which those in some headers are told already
abbrev pub note_lines : List Text → List File → List ℕ → Text → List Note → Text
note_lines texts headers told name = flat_map (note_text texts headers told name)
