use Rattle.std.proofs.Common.{◌≡◌, drop}
use Rattle.std.specs.Prelude.{None}
use Rattle.flt_c_macros.specs.Uses.{noted_behind}
use Rattle.flt_c_macros.proofs.text.note_all.Given as goal

abbrev pub invariant-loop-note : goal.invariant-loop-note
invariant-loop-note l = noted_behind None l.notes l.fn.state ≡ noted_behind l.before (drop l.note-index l.notes) l.state
