-- Whether a callback is ever handed a context. This project's own definitions.
use Rattle.std.specs.Prelude.{◌≡◌, ℕ, ◌==◌, Bool, true, false, not, ◌&&◌, Option, is_some, slice_get}
use Rattle.std.specs.List.{list_any}
use Rattle.std.specs.Option.{option_map_or}
use Rattle.flt_rules.specs.Place.{same_operation}
use Rattle.flt_rules.specs.declared.call.Call.{Call}
use Rattle.flt_rules.specs.declared.call.Call.TheVariants as call
use Rattle.flt_rules.specs.declared.place.Place.{Place}
use Rattle.flt_rules.specs.declared.place.Place.TheVariants as place
use Rattle.flt_rules.specs.declared.rule.Rule.{Rule}
use Rattle.flt_rules.specs.declared.rule.Rule.TheVariants.{R02, R03}
use Rattle.flt_tree.specs.Filter.{named_context}
use Rattle.flt_tree.specs.declared.filter.Status.{Status}
use Rattle.flt_tree.specs.declared.variable.ContextVariable.{ContextVariable}
use Rattle.flt_tree.specs.declared.variable.ContextVariable.TheVariants.{Arg}
use Rattle.flt_graph.specs.Graph.{place_at}
use Rattle.flt_graph.specs.Instruction.{roles}
use Rattle.flt_graph.specs.declared.graph.CallbackGraph.{CallbackGraph}
use Rattle.flt_graph.specs.declared.graph.Graph.{Graph}
use Rattle.flt_graph.specs.declared.graph.Point.{Point}
use Rattle.flt_graph.specs.declared.instruction.Instruction.{Instruction}
use Rattle.flt_graph.specs.declared.instruction.Instruction.TheVariants as instruction
use Rattle.flt_graph.specs.declared.instruction.Invocation.{Invocation}
use Rattle.flt_explain.specs.declared.finding.Finding.{Finding}
use Rattle.flt_explain.specs.declared.finding.Subject.{Subject}
use Rattle.flt_explain.specs.declared.finding.Subject.TheVariants as about

-- ---- what hands a context over

-- a work item starts this routine with a context
abbrev pub is_item_for : Invocation → ℕ → Bool
is_item_for c n = is_some c.context && option_map_or (λ r. r == n) c.routine false

-- a call hands a context to the callback of a number, which is at this place: a completion to a post callback, an insert to `canceled`,
-- a work item to its routine
abbrev pub is_handed_to : Call → Invocation → ℕ → Place → Bool
is_handed_to (call.CompletePendedPreOperation whose) c n (place.Post kind) = is_some c.context
is_handed_to call.InsertIo c n place.Canceled = is_some c.context
is_handed_to call.QueueDeferredIoWorkItem c n place.DeferredPre = is_item_for c n
is_handed_to call.QueueDeferredIoWorkItem c n place.DeferredPost = is_item_for c n
is_handed_to call.QueueDeferredIoWorkItem c n place.Generic = is_item_for c n
is_handed_to call.QueueGenericWorkItem c n place.DeferredPre = is_item_for c n
is_handed_to call.QueueGenericWorkItem c n place.DeferredPost = is_item_for c n
is_handed_to call.QueueGenericWorkItem c n place.Generic = is_item_for c n
is_handed_to _ c n _ = false

abbrev pub is_handed_by_call : Invocation → ℕ → Place → Bool
is_handed_by_call c n p = is_handed_to c.call c n p

-- the status of a pre callback hands a context to the post callback of the same operation
abbrev pub is_handed_by_status : Place → Option Status → Place → Bool
is_handed_by_status (place.Pre own) st (place.Post kind) = same_operation own kind && is_some (named_context st)
is_handed_by_status _ st _ = false

-- what is done at a point of a callback at the first place
abbrev pub is_handed_by : Place → Instruction → ℕ → Place → Bool
is_handed_by from (instruction.Call c granted failed) n p = is_handed_by_call (roles c) n p
is_handed_by from (instruction.Return st) n p = is_handed_by_status from st p
is_handed_by from _ n p = false

abbrev pub is_handed_in : CallbackGraph → ℕ → Place → Bool
is_handed_in from n p = list_any (λ (point : Point). is_handed_by from.place point.instruction n p) from.points

-- some callback hands a context to the callback of a number
abbrev pub is_handed : Graph → ℕ → Bool
is_handed g n = list_any (λ (from : CallbackGraph). is_handed_in from n (place_at g n)) g.callbacks

-- ---- what else gives `arg` a context

abbrev pub is_argument : ContextVariable → Bool
is_argument Arg = true
is_argument _ = false

-- a call writes `arg`
abbrev pub is_written_by : Instruction → Bool
is_written_by (instruction.Call c granted failed) = option_map_or is_argument (roles c).output false
is_written_by _ = false

abbrev pub is_written_in : CallbackGraph → Bool
is_written_in own = list_any (λ (point : Point). is_written_by point.instruction) own.points

-- the callback of a number writes its `arg`
abbrev pub is_written : Graph → ℕ → Bool
is_written g n = option_map_or is_written_in (slice_get g.callbacks n) false

-- ---- findings

-- `arg` is held where it mustn't be: at the end, or where it is overwritten
abbrev pub is_about_held_argument : Finding → Bool
is_about_held_argument f = is_held_argument f.rule f.subject where
  is_held_argument : Rule → Subject → Bool
  is_held_argument R02 (about.Context v) = is_argument v
  is_held_argument R03 (about.Context v) = is_argument v
  is_held_argument _ _ = false

-- the same, and no call and no status ever gives `arg` a context
abbrev pub is_without_hand_over : Graph → Finding → Bool
is_without_hand_over g f = is_about_held_argument f && (not (is_handed g f.callback) && not (is_written g f.callback))

abbrev pub IsWithoutHandOver : Graph → Finding → Type 0
IsWithoutHandOver g f = is_without_hand_over g f ≡ true
