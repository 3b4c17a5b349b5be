-- Findings that one way serves. This project's own program.
use Rattle.std.specs.Prelude.{◌≡◌, ◌<◌, ℕ, Bool, true, false, ◌==◌, ◌&&◌, List, Some, IfSome, slice_get}
use Rattle.flt_rules.specs.Call.{place_of}
use Rattle.flt_rules.specs.Rule.{number}
use Rattle.flt_tree.specs.Variable.{context_place, operation_place}
use Rattle.flt_explain.specs.declared.finding.Finding.{Finding}
use Rattle.flt_explain.specs.declared.finding.Subject.{Subject}
use Rattle.flt_explain.specs.declared.finding.Subject.TheVariants as about
use Rattle.flt_explain_details.specs.declared.study.Detail.{Detail}

-- whether two findings are about the same
abbrev pub same_subject : Subject → Subject → Bool
same_subject (about.Context a) (about.Context b) = context_place a == context_place b
same_subject (about.Operation a) (about.Operation b) = operation_place a == operation_place b
same_subject (about.Lock a) (about.Lock b) = place_of a == place_of b
same_subject about.Mode about.Mode = true
same_subject about.Draining about.Draining = true
same_subject about.Call about.Call = true
same_subject about.Status about.Status = true
same_subject _ _ = false

-- whether two findings are of one callback and rule, and about the same
abbrev pub is_alike : Finding → Finding → Bool
is_alike a b = (a.callback == b.callback) && ((number a.rule == number b.rule) && same_subject a.subject b.subject)

-- a finding comes before another one of these, and is like it
pub record IsLike (found : List Finding) (own : ℕ) (first : ℕ) : Type 0 where
  pub before : first < own
  pub one : Finding
  pub is_one : slice_get found first ≡ Some one
  pub other : Finding
  pub is_other : slice_get found own ≡ Some other
  pub alike : is_alike one other ≡ true

-- where the way of another finding serves one of these, that comes before and is like it
abbrev pub AreLike : List Finding → List Detail → Type 0
AreLike found details = (k : ℕ) (d : Detail) → slice_get details k ≡ Some d → IfSome d.route.like (IsLike found k)
