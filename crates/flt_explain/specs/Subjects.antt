-- What broken rules are about, in the order in which they are told. This project's own definitions.
use Rattle.std.specs.Prelude.{ℕ, ◌+◌, Bool, ◌==◌, ◌&&◌, List, [], ◌∷◌}
use Rattle.flt_rules.specs.Call.{place_of}
use Rattle.flt_rules.specs.Rule.{number}
use Rattle.flt_rules.specs.declared.call.LockNumber.TheVariants.{L0, L1, L2, L3, L4, L5, L6, L7}
use Rattle.flt_tree.specs.Variable.{context_place, operation_place}
use Rattle.flt_tree.specs.declared.variable.ContextVariable.TheVariants.{C0, C1, C2, C3, C4, C5, C6, C7, Arg}
use Rattle.flt_tree.specs.declared.variable.OperationVariable.TheVariants.{Removed, Data}
use Rattle.flt_tree.specs.declared.variable.RemovedVariable.TheVariants.{O0, O1, O2, O3}
use Rattle.flt_explain.specs.declared.finding.Finding.{Finding}
use Rattle.flt_explain.specs.declared.finding.Subject.{Subject}
use Rattle.flt_explain.specs.declared.finding.Subject.TheVariants as about

-- where a subject stands among all
abbrev pub place : Subject → ℕ
place (about.Context v) = context_place v
place (about.Operation v) = 9 + operation_place v
place about.Mode = 14
place about.Draining = 15
place (about.Lock l) = 16 + place_of l
place about.Call = 24
place about.Status = 25

-- all that a rule can be about besides the call and the status themselves, in the order in which it is told
abbrev pub operands : List Subject
operands =
    about.Context C0 ∷ about.Context C1 ∷ about.Context C2 ∷ about.Context C3 ∷ about.Context C4 ∷ about.Context C5 ∷ about.Context C6
    ∷ about.Context C7 ∷ about.Context Arg ∷ about.Operation (Removed O0) ∷ about.Operation (Removed O1) ∷ about.Operation (Removed O2)
    ∷ about.Operation (Removed O3) ∷ about.Operation Data ∷ about.Mode ∷ about.Draining ∷ about.Lock L0 ∷ about.Lock L1 ∷ about.Lock L2
    ∷ about.Lock L3 ∷ about.Lock L4 ∷ about.Lock L5 ∷ about.Lock L6 ∷ about.Lock L7 ∷ []

-- whether two findings are of one rule, at one point and about one subject
abbrev pub is_same_finding : Finding → Finding → Bool
is_same_finding a b =
    a.callback == b.callback && (a.point == b.point && (number a.rule == number b.rule && place a.subject == place b.subject))
