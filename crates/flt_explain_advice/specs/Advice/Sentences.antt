-- The forms of sentences on findings. This project's own program.
use Rattle.std.specs.Prelude.{ℕ, [], ◌∷◌, codes}
use Rattle.std.specs.List.{concat}
use Rattle.flt_tree.specs.Names.{Text}
use Rattle.flt_explain_advice.specs.Case.{Circumstances, head, line_named, subject}
use Rattle.flt_explain_texts.specs.Page.{quoted}

-- what the finding is about, between words
unfoldable pub around : Circumstances → Text → Text → Text
around x before after = concat (before ∷ subject x ∷ after ∷ [])

-- what is so of it at the end of the callback
unfoldable pub at_end : Circumstances → Text → Text
at_end x words = concat (subject x ∷ words ∷ quoted (head x) ∷ codes " ends" ∷ [])

-- what a line does with it
unfoldable pub on_line : Circumstances → ℕ → Text → Text → Text
on_line x line verb after = concat (codes "line " ∷ line_named x line ∷ verb ∷ subject x ∷ after ∷ [])

-- what somebody does with it since a line
unfoldable pub since : Circumstances → Text → ℕ → Text
since x owns line = concat (owns ∷ subject x ∷ codes " since line " ∷ line_named x line ∷ [])

-- what becomes of it in a line
unfoldable pub in_line : Circumstances → Text → ℕ → Text
in_line x becomes line = concat (subject x ∷ becomes ∷ line_named x line ∷ [])

-- what is so of the callback
unfoldable pub of_callback : Circumstances → Text → Text
of_callback x words = concat (quoted (head x) ∷ words ∷ [])
