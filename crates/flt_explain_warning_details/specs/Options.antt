-- Which warnings are shown, and what they make of the exit status. This project's own program.
use Rattle.std.specs.Prelude.{ℕ, Bool, not, ◌==◌, ◌&&◌, if◌then◌else◌, List, [], ◌∷◌, count_by, is_some}
use Rattle.flt_explain.specs.declared.finding.Finding.{Finding}
use Rattle.flt_explain_warning_details.specs.declared.detail.WarningDetail.{WarningDetail}

-- no comment allows it
abbrev pub is_shown : WarningDetail → Bool
is_shown d = not (is_some d.reason)

-- how many no comment allows
abbrev pub shown_count : List WarningDetail → ℕ
shown_count = count_by is_shown

-- the exit status where a caller asks that warnings count
abbrev pub strict_status : Bool → ℕ → ℕ
strict_status strict count = if strict && not (count == 0) then 1 else 0

-- 1 where something is found, or where a warning counts that no comment allows
abbrev pub warned_status : Bool → List Finding → List WarningDetail → ℕ
warned_status strict [] details = strict_status strict (shown_count details)
warned_status strict (f ∷ fs) details = 1
