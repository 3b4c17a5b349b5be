-- What is printed of texts, and what came of the findings in it. This project's own program.
use Rattle.std.specs.Prelude.{◌≡◌, ℕ, true, List, [], ◌∷◌, ◌++◌}
use Rattle.flt_tree.specs.Names.{Text}
use Rattle.flt_tree.specs.declared.tree.Tree.{Tree}
use Rattle.flt_model.specs.Program.{filters_of}
use Rattle.flt_explain_runs.specs.Lines.{note_line, again_line}
use Rattle.flt_explain_outcomes.specs.Parsed.{AreParsed}
use Rattle.flt_explain_runs.specs.Quiet.{is_quiet}
use Rattle.flt_explain_outcomes.specs.declared.noted.Note.{Note}
use Rattle.flt_explain_outcomes.specs.declared.schedules.RunSearch.{RunSearch}

-- Whole lines are printed, of which those that say what comes of findings in runs are exactly the lines of these notes, in their order:
-- between them, and in front and behind, no line begins as one of theirs.
pub data Say (trees : List Tree) (search : RunSearch) : List Note → List ℕ → Type 0 where
  nothing : Say trees search [] []
  others : (notes : List Note) (printed lines : List ℕ) → Say trees search notes printed → is_quiet lines ≡ true →
      Say trees search notes (printed ++ lines)
  note : (notes : List Note) (printed : List ℕ) (n : Note) (rows : List ℕ) → Say trees search notes printed → is_quiet rows ≡ true →
      Say trees search (notes ++ n ∷ []) (printed ++ note_line trees search n ++ rows ++ again_line n.again)

-- the same, where the trees are those of the texts that parse
pub record Tells (texts : List Text) (search : RunSearch) (notes : List Note) (printed : List ℕ) : Type 0 where
  pub trees : List Tree
  pub parsed : AreParsed texts (filters_of trees)
  pub said : Say trees search notes printed
