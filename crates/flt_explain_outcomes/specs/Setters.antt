-- A text with one more callback, which sets what nothing in the text without it sets. This project's own definitions.
use Rattle.std.specs.Prelude.{◌≡◌, ℕ, suc, ◌+◌, ◌-◌, ◌==◌, Bool, false, if◌then◌else◌, length}
use Rattle.std.specs.Prelude.{[], ◌∷◌, ◌++◌, Option, None, Some, slice_get, string_bytes}
use Rattle.flt_syntax.specs.Spelling.{Spells}
use Rattle.flt_tree.specs.Names.{Text}
use Rattle.flt_tree.specs.declared.tree.Tree.{Tree}
use Rattle.flt_explain_texts.specs.declared.judged.TextJudgement.{TextJudgement}
use Rattle.flt_explain_texts.specs.declared.judged.TextJudgement.TheVariants.{Unread, Known}
use Rattle.flt_explain_outcomes.specs.declared.setters.Setter.{Setter}

-- the last byte ends a line
abbrev pub is_end : Option ℕ → Bool
is_end None = false
is_end (Some b) = b == 10

-- a text with an end of its last line
abbrev pub ended : Text → Text
ended text = if is_end (slice_get text (length text - 1)) then text else text ++ 10 ∷ []

-- how many lines end in a text
abbrev pub line_ends : Text → ℕ
line_ends [] = 0
line_ends (b ∷ bytes) = if b == 10 then suc (line_ends bytes) else line_ends bytes

-- a text goes on behind another one
pub record GoesOn (text whole : Text) : Type 0 where
  pub more : Text
  pub is : whole ≡ text ++ more

-- the only tree is that of a text which is known
abbrev pub IsOfJudged : TextJudgement → Setter → Type 0
IsOfJudged (Unread fault) s = ⊥
IsOfJudged (Known tree graph found) s = s.trees ≡ tree ∷ []

-- the only tree is that of a text which goes on behind this one: with the lines that are added, from the line of this number on
pub record IsSetter (text : Text) (s : Setter) : Type 0 where
  pub whole : Text
  pub on : GoesOn text whole
  pub added : whole ≡ ended text ++ string_bytes s.added
  pub line : s.line ≡ line_ends (ended text) + 1
  pub tree : Tree
  pub alone : s.trees ≡ tree ∷ []
  pub spelled : Spells whole tree.filter
