-- That no way leads to what is found. This project's own definitions.
use Rattle.std.specs.Prelude.{Bool, true, false, not, ◌==◌, ◌&&◌, ◌||◌, List, Option, Some, None}
use Rattle.std.specs.List.{list_all}
use Rattle.flt_rules.specs.declared.rule.Rule.{Rule}
use Rattle.flt_rules.specs.declared.rule.Rule.TheVariants.{R07, R09, R10, R11, R12}
use Rattle.flt_graph.specs.Graph.{place_at, instruction_at}
use Rattle.flt_graph.specs.declared.graph.Graph.{Graph}
use Rattle.flt_abs.specs.Breaks.{breaks}
use Rattle.flt_abs.specs.Setting.{setting_of}
use Rattle.flt_abs.specs.State.{State, is_proper}
use Rattle.flt_abs.specs.Step.{leads_to}
use Rattle.flt_abs.specs.declared.step.Successor.{Successor}
use Rattle.flt_abs.specs.declared.step.Successors.{Successors}
use Rattle.flt_explain_closed.specs.Closed.{is_closed}
use Rattle.flt_explain_closed.specs.declared.member.Member.{Member}
use Rattle.flt_explain.specs.About.{is_about}
use Rattle.flt_explain.specs.declared.finding.Finding.{Finding}
use Rattle.flt_explain.specs.declared.finding.Subject.{Subject}
use Rattle.flt_explain.specs.declared.finding.Subject.TheVariants as subject
use Rattle.flt_explain_origins.specs.Ways.{Shows, Meet, are_lists_apart}
use Rattle.flt_explain_origins.specs.declared.answer.Way.{Way}
use Rattle.flt_explain_ways.specs.declared.cover.Cover.{Cover}

-- ---- what is said

-- no way shows the finding, neither a clean one nor another; where lock lists differ (R12), no two ways meet so
abbrev pub NoWayBy : Rule → Graph → Finding → Type 0
NoWayBy R12 g f = (clean : Bool) (w v : Way) → Meet g f clean w v → ⊥
NoWayBy r g f = (clean : Bool) (w : Way) → Shows g f clean w → ⊥

abbrev pub NoWay : Graph → Finding → Type 0
NoWay g f = NoWayBy f.rule g f

-- ---- what is computed: a set that no step leads out of has nothing of what is found

-- whether this is the call or the status itself
abbrev pub is_itself : Subject → Bool
is_itself subject.Call = true
is_itself subject.Status = true
is_itself u = false

-- whether a rule reads the locks that are held
abbrev pub reads_locks : Rule → Bool
reads_locks R07 = true
reads_locks R09 = true
reads_locks R10 = true
reads_locks R11 = true
reads_locks r = false

-- a point may break the rule in a state by what the finding is about
abbrev pub may_break : Graph → Finding → State → Bool
may_break g f x =
    breaks (setting_of g f.callback x) x (instruction_at g f.callback f.point) f.rule
    && (is_itself f.subject || is_about (place_at g f.callback) x (instruction_at g f.callback f.point) f.rule f.subject)

-- a state of the set isn't one in which it is found
abbrev pub is_free : Graph → Finding → Member → Bool
is_free g f m = not (m.point == f.point) || (is_proper m.state && not (may_break g f m.state))

-- a state of the set isn't at the point of another one, or its lock list isn't another
abbrev pub is_with : Subject → Successor → Member → Bool
is_with u s m = not (m.point == s.point) || not (are_lists_apart u s.state.locks m.state.locks)

-- what follows meets no state of the set with another lock list
abbrev pub meets_none : Subject → List Member → Option Successor → Bool
meets_none u ms (Some s) = list_all (is_with u s) ms
meets_none u ms None = true

abbrev pub meet_none : Subject → List Member → Successors → Bool
meet_none u ms next = meets_none u ms next.first && meets_none u ms next.second

-- nor does what follows a state at the finding's point
abbrev pub is_alone : Graph → Finding → List Member → Member → Bool
is_alone g f ms m = not (m.point == f.point) || meet_none f.subject ms (leads_to m.state (instruction_at g f.callback f.point))

-- the set rules out each way
abbrev pub rules_out : Rule → Graph → Finding → Cover → Bool
rules_out R12 g f c = c.locks && list_all (is_alone g f c.members) c.members
rules_out r g f c = (c.locks || not (reads_locks r)) && list_all (is_free g f) c.members

-- whether no step leads out of a set
abbrev pub is_checked : Graph → Cover → Bool
is_checked g c = is_closed g c.callback c.locks c.members

-- the set of a number is of the finding's callback, no step leads out of it, and it rules out each way
abbrev pub is_ruled_out : Graph → Finding → Option Cover → Option Bool → Bool
is_ruled_out g f (Some c) (Some true) = c.callback == f.callback && rules_out f.rule g f c
is_ruled_out g f _ _ = false
