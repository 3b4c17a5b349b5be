-- Findings as they are told, each once. This project's own definitions.
use Rattle.std.specs.Prelude.{ℕ, Bool, ◌==◌, ◌&&◌, List, [], ◌∷◌, ◌++◌, if◌then◌else◌}
use Rattle.std.specs.List.{filter, list_any}
use Rattle.flt_rules.specs.declared.rule.Rule.{Rule}
use Rattle.flt_explain.specs.Subjects.{is_same_finding}
use Rattle.flt_explain.specs.declared.finding.Finding.{Finding}
use Rattle.flt_explain.specs.declared.finding.Subject.{Subject}
use Rattle.flt_explain.specs.declared.tell.Spot.{Spot}

-- what is found at a point
abbrev pub finding_at : Spot → Rule → Subject → Finding
finding_at s r u = record { callback = s.callback; point = s.point; line = s.line; rule = r; subject = u }

-- whether a finding is among these
abbrev pub is_told : List Finding → Finding → Bool
is_told fs f = list_any (λ (h : Finding). is_same_finding h f) fs

-- the findings with one more, unless it is among them
abbrev pub told : List Finding → Finding → List Finding
told fs f = if is_told fs f then fs else fs ++ f ∷ []

-- whether a finding is at a point of a callback
abbrev pub is_at : ℕ → ℕ → Finding → Bool
is_at callback point h = h.callback == callback && h.point == point

-- the findings at a point of a callback
abbrev pub at_point : ℕ → ℕ → List Finding → List Finding
at_point callback point found = filter (is_at callback point) found
