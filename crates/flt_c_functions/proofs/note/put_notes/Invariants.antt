use Rattle.std.proofs.Common.{◌≡◌, ◌++◌, drop}
use Rattle.flt_c_functions.specs.Notes.{note_lines}
use Rattle.flt_c_functions.proofs.note.put_notes.Given as goal

abbrev pub invariant-loop-note : goal.invariant-loop-note
invariant-loop-note l =
    l.fn.out.items ++ note_lines l.fn.spellings l.fn.headers.files l.fn.told l.fn.name l.fn.notes
    ≡ l.out.items ++ note_lines l.fn.spellings l.fn.headers.files l.fn.told l.fn.name (drop l.note-index l.fn.notes)
