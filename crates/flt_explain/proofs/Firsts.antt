-- The first of all faults is by the least rule that is broken.
use Rattle.std.proofs.Common.{◌≡◌, ℕ, Bool, true, false, List, [], ◌∷◌, ◌++◌, Option, Some, if◌then◌else◌, refl}
use Rattle.std.specs.Prelude.{find, map}
use Rattle.flt_rules.specs.declared.rule.Rule.{Rule}
use Rattle.flt_graph.specs.Graph.{place_at, instruction_at}
use Rattle.flt_graph.specs.declared.graph.Graph.{Graph}
use Rattle.flt_abs.specs.Breaks.{breaks}
use Rattle.flt_abs.specs.Setting.{setting_of}
use Rattle.flt_abs.specs.State.{State}
use Rattle.flt_explain.specs.Faults.{fault, or_itself, blamed, faults_of_all, first_rule}
use Rattle.flt_explain.specs.declared.finding.Fault.{Fault}
use Rattle.flt_explain.specs.declared.finding.Subject.{Subject}

-- a rule that is broken comes first, and one that isn't adds nothing
first_by : (b : Bool) (r : Rule) (us : List Subject) (fs : List Fault) (o : Option Rule) → first_rule fs ≡ o →
    first_rule ((if b then map (fault r) (or_itself r us) else []) ++ fs) ≡ (if b then Some r else o)
first_by true r [] fs o e = refl
first_by true r (u ∷ us) fs o e = refl
first_by false r us fs o e = e

-- of any rules, the first fault is by the first that is broken
pub first_of_all : (g : Graph) (callback point : ℕ) (x : State) (us : List Subject) (rs : List Rule) →
    first_rule (faults_of_all g callback point x us rs) ≡ find (breaks (setting_of g callback x) x (instruction_at g callback point)) rs
first_of_all g callback point x us [] = refl
first_of_all g callback point x us (r ∷ rs) =
    first_by (breaks (setting_of g callback x) x (instruction_at g callback point) r) r
    (blamed (place_at g callback) x (instruction_at g callback point) r us) (faults_of_all g callback point x us rs) _
    (first_of_all g callback point x us rs)
