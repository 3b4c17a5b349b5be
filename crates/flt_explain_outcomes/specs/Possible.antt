-- What may be so of one variable of contexts, and what an instruction makes of that. Numbers aren't traced, nor other variables. This
-- project's own definitions.
use Rattle.std.specs.Prelude.{Bool, true, false, not, ◌&&◌, ◌||◌, Option, Some, None, if◌then◌else◌}
use Rattle.flt_rules.specs.Table.{row}
use Rattle.flt_rules.specs.declared.columns.Change.{Change}
use Rattle.flt_rules.specs.declared.columns.Change.TheVariants as becomes
use Rattle.flt_rules.specs.declared.columns.Effects.{Effects}
use Rattle.flt_rules.specs.declared.place.Place.{Place}
use Rattle.flt_rules.specs.declared.place.Place.TheVariants as place
use Rattle.flt_tree.specs.declared.filter.Action.{Action}
use Rattle.flt_tree.specs.declared.filter.Action.TheVariants as action
use Rattle.flt_tree.specs.declared.filter.Test.{Test}
use Rattle.flt_tree.specs.declared.filter.Test.TheVariants as test
use Rattle.flt_tree.specs.declared.variable.ContextVariable.{ContextVariable}
use Rattle.flt_graph.specs.Instruction.{roles}
use Rattle.flt_graph.specs.declared.instruction.Instruction.{Instruction}
use Rattle.flt_graph.specs.declared.instruction.Instruction.TheVariants as instruction
use Rattle.flt_graph.specs.declared.instruction.Invocation.{Invocation}
use Rattle.flt_explain.specs.About.{is_context}
use Rattle.flt_explain_outcomes.specs.HandOver.{is_argument}
use Rattle.flt_explain_outcomes.specs.declared.possible.Possible.{Possible}

-- ---- sets

abbrev pub of : Bool → Bool → Bool → Possible
of null held stale = record { null = null; held = held; stale = stale }

abbrev pub nothing : Possible
nothing = of false false false

abbrev pub null_alone : Possible
null_alone = of true false false

-- something may be so
abbrev pub is_some : Possible → Bool
is_some s = s.null || (s.held || s.stale)

-- what may be so by the first may be so by the second
abbrev pub is_within : Possible → Possible → Bool
is_within a b = (not a.null || b.null) && ((not a.held || b.held) && (not a.stale || b.stale))

-- ---- where callbacks are entered

-- `arg` is NULL on the way down, and elsewhere perhaps held
abbrev pub entered_argument : Place → Possible
entered_argument (place.Pre kind) = null_alone
entered_argument _ = of true true false

abbrev pub entered : Place → ContextVariable → Possible
entered p v = if is_argument v then entered_argument p else null_alone

-- ---- instructions

abbrev pub changed : Change → Possible → Possible
changed becomes.Stays s = s
changed becomes.Null s = null_alone
changed becomes.Held s = of false true false
changed becomes.Stale s = of false false true
changed becomes.NullOrHeld s = of true true false

-- the same where the variable is the one that is named
abbrev pub changed_if : Bool → Change → Possible → Possible
changed_if true c s = changed c s
changed_if false c s = s

abbrev pub after_effects : Invocation → Effects → ContextVariable → Possible → Possible
after_effects c e v s = changed_if (is_context c.output v) e.output (changed_if (is_context c.context v) e.context s)

abbrev pub after_call : Invocation → Option Effects → ContextVariable → Possible → Possible
after_call c (Some e) v s = after_effects c e v s
after_call c None v s = s

abbrev pub after_action : Action → ContextVariable → Possible → Possible
after_action (action.ClearContext c) v s = changed_if (is_context (Some c) v) becomes.Null s
after_action _ v s = s

-- what is left where a test of NULL comes out so
abbrev pub where_found : Bool → Bool → Possible → Possible
where_found true true s = of false s.held s.stale
where_found true false s = of s.null false false
where_found false outcome s = s

abbrev pub after_test : Test → Bool → ContextVariable → Possible → Possible
after_test (test.ContextIsSome c) outcome v s = where_found (is_context (Some c) v) outcome s
after_test _ outcome v s = s

-- what may be so behind an instruction, by its outcome: that a call succeeds, that a test holds
abbrev pub after : Instruction → Bool → ContextVariable → Possible → Possible
after (instruction.Act a next) outcome v s = after_action a v s
after (instruction.Call c granted failed) true v s = after_effects (roles c) (row (roles c).call).on_ok v s
after (instruction.Call c granted failed) false v s = after_call (roles c) (row (roles c).call).on_fail v s
after (instruction.Test t granted failed) outcome v s = after_test t outcome v s
after _ outcome v s = s
