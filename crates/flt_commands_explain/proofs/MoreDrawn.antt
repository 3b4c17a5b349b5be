-- The pictures of the runs of findings, one more at a time.
use Rattle.std.proofs.Common.{◌≡◌, List, [], ◌∷◌, ◌++◌, Some, Result, Ok, Err, OnOk}
use Rattle.flt_tree.specs.declared.tree.Tree.{Tree}
use Rattle.flt_search.specs.declared.judging.BreakingJournal.{BreakingJournal}
use Rattle.flt_explain_outcomes.specs.declared.noted.Note.{Note}
use Rattle.flt_commands_explain.specs.Html.{AreDrawn, IsDrawn, run_of}
use Rattle.flt_commands_explain.specs.Html as spec
use Rattle.flt_files.specs.Inputs.{Text}

-- one more finding has a run, and its picture is added
pub picture_more : (trees : List Tree) (pictures more : List Text) (n : Note) (run : BreakingJournal) (picture : Text) {E : Type 0}
    (r : Result (Unit {0}) E) → run_of n ≡ Some run → IsDrawn trees n run picture → OnOk r (more ≡ pictures ++ picture ∷ []) →
    OnOk r ((notes : List Note) → AreDrawn trees notes pictures → AreDrawn trees (notes ++ n ∷ []) more)
picture_more trees pictures more n run picture (Ok x) is drawn same = λ notes are. rw same (spec.drawn n run picture are is drawn)
picture_more trees pictures more n run picture (Err e) is drawn same = tt
