-- Notes on text: the same is said once.
use Rattle.std.specs.Prelude.{nat_eq, Bool, false, ◌&&◌, Option, Some, None}
use denote.Enum.Bare.{sameb}
use Rattle.flt_c_macros.specs.declared.note.Note.{Note}
use Rattle.flt_c_macros.specs.declared.note.NoteKind.{NoteKind}
use Rattle.flt_c_macros.specs.contracts.note.NoteKind.{the_type}

-- `==` on reasons of notes
unfoldable pub same_reason : NoteKind → NoteKind → Bool
same_reason = sameb the_type

-- a note for the reason and at the place of the one before says nothing new
abbrev pub is_told : Note → Option Note → Bool
is_told n None = false
is_told n (Some before) =
    same_reason n.kind before.kind && nat_eq n.at.line before.at.line && nat_eq n.at.column before.at.column
