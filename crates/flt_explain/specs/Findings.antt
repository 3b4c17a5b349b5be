-- All findings of a text, against the analyser's answer. This project's own definitions.
use Rattle.std.specs.Prelude.{◌≡◌, ℕ, ◌-◌, Bool, ◌==◌, ◌&&◌, IsTrue, List, [], ◌∷◌, Option, Some, None, length, slice_get}
use Rattle.std.specs.List.{position, remove}
use Rattle.flt_rules.specs.Rule.{number}
use Rattle.flt_graph.specs.declared.graph.Graph.{Graph}
use Rattle.flt_cert.specs.Format.{Certificate, is_certificate}
use Rattle.flt_check.specs.Covering.{Covers}
use Rattle.flt_rules.specs.declared.refusal.Refusal.{Refusal}
use Rattle.flt_analyse.specs.Least.{IsLeast, NoneCovers, IsNamed}
use Rattle.flt_explain.specs.Walk.{walked_from}
use Rattle.flt_explain.specs.declared.finding.Finding.{Finding}
use Rattle.flt_explain.specs.declared.finding.Subject.{Subject}
use Rattle.flt_explain.specs.declared.finding.Subject.TheVariants.{Call}

-- where a finding is, and its rule
abbrev pub refusal_of : Finding → Refusal
refusal_of f = record { callback = f.callback; point = f.point; line = f.line; rule = f.rule }

-- a certificate covers the text: the analyser's, the least one
pub record IsAccepted (g : Graph) : Type 0 where
  pub certificate : Certificate
  pub certified : IsTrue (is_certificate certificate)
  pub covers : Covers g certificate
  pub least : IsLeast g certificate

-- no certificate covers the text, and this is the analyser's refusal
pub record IsRefused (g : Graph) (f : Refusal) : Type 0 where
  pub none : NoneCovers g
  pub named : IsNamed g f

-- the analyser's answer: a certificate, or its refusal
abbrev pub Answers : Graph → Option Refusal → Type 0
Answers g None = IsAccepted g
Answers g (Some f) = IsRefused g f

-- whether a finding is where a refusal is, by its rule
abbrev pub is_refusal : Refusal → Finding → Bool
is_refusal f h = h.callback == f.callback && (h.point == f.point && number h.rule == number f.rule)

-- a refusal as a finding about a subject
abbrev pub refused : Refusal → Subject → Finding
refused f u = record { callback = f.callback; point = f.point; line = f.line; rule = f.rule; subject = u }

-- what a finding is about; where there is none, the call
abbrev pub subject_of : Option Finding → Subject
subject_of (Some h) = h.subject
subject_of None = Call

-- the findings with the one of this number in front, as the refusal; with the refusal in front, where there is no number
abbrev pub with_in_front : Refusal → List Finding → Option ℕ → List Finding
with_in_front f found (Some place) = refused f (subject_of (slice_get found place)) ∷ remove found place
with_in_front f found None = refused f Call ∷ found

-- the findings with the first one in front that a refusal is about
unfoldable pub with_first : Refusal → List Finding → List Finding
with_first f found = with_in_front f found (position (is_refusal f) found)

-- what the walks of all callbacks from a refusal's on find, in order, with the refusal in front
unfoldable pub found_from : Graph → Refusal → List Finding
found_from g f = with_first f (walked_from g f.callback (length g.callbacks - f.callback) [])

-- nothing is found exactly where a certificate covers; else the first finding is the analyser's refusal, and these are what the walks find
abbrev pub AreFindings : Graph → List Finding → Type 0
AreFindings g [] = IsAccepted g
AreFindings g (h ∷ hs) = IsRefused g (refusal_of h) × (h ∷ hs ≡ found_from g (refusal_of h))
