-- A text in which nothing is found and of which nothing is warned, as JSON. This project's own format.
use Rattle.std.specs.Prelude.{ℕ, List, [], ◌∷◌, ◌++◌, Bool, true, codes, false, if◌then◌else◌}
use Rattle.flt_explain_texts.specs.declared.judged.TextJudgement.{TextJudgement}
use Rattle.flt_explain_texts.specs.declared.judged.TextJudgement.TheVariants.{Unread, Known}
use Rattle.flt_explain.specs.declared.finding.Finding.{Finding}
use Rattle.flt_explain_warning_details.specs.declared.detail.WarningDetail.{WarningDetail}
use Rattle.json.specs.Token.{Token, begin_object, end_object}
use Rattle.flt_explain_parts.specs.Members.{line_of}
use Rattle.flt_explain_forms.specs.Preface.{preface}
use Rattle.flt_explain_forms.specs.declared.as_lines.Style.{Style}
use Rattle.flt_explain_forms.specs.declared.as_lines.Style.TheVariants.{Object, Sentence}

-- nothing is warned of
abbrev pub has_none : List WarningDetail → Bool
has_none [] = true
has_none (w ∷ ws) = false

-- the same, and nothing is found
abbrev pub is_nothing : List Finding → List WarningDetail → Bool
is_nothing [] warned = has_none warned
is_nothing (f ∷ fs) warned = false

-- it parses, nothing is found, and nothing is warned of, not even what a comment allows
abbrev pub is_clean : TextJudgement → List WarningDetail → Bool
is_clean (Unread f) warned = false
is_clean (Known tree graph found) warned = is_nothing found warned

abbrev pub clean : List ℕ → List Token
clean name = begin_object ∷ preface (codes "clean") name ++ end_object ∷ []

-- a line of such a text; people get none
abbrev pub clean_lines : Style → List ℕ → TextJudgement → List WarningDetail → List ℕ
clean_lines Object name judged warned = if is_clean judged warned then line_of (clean name) else []
clean_lines Sentence name judged warned = []
