-- Contexts that no callback of a filter sets, so that no call gets one. This project's own definitions.
use Rattle.std.specs.Prelude.{◌≡◌, Bool, true, false, not, ◌&&◌}
use Rattle.std.specs.List.{list_any}
use Rattle.flt_rules.specs.declared.call.Anchor.{Anchor}
use Rattle.flt_rules.specs.declared.call.Anchor.TheVariants as anchor
use Rattle.flt_rules.specs.declared.call.Call.{Call}
use Rattle.flt_rules.specs.declared.call.Call.TheVariants as call
use Rattle.flt_graph.specs.Instruction.{roles}
use Rattle.flt_graph.specs.declared.graph.CallbackGraph.{CallbackGraph}
use Rattle.flt_graph.specs.declared.graph.Graph.{Graph}
use Rattle.flt_graph.specs.declared.graph.Point.{Point}
use Rattle.flt_graph.specs.declared.instruction.Instruction.{Instruction}
use Rattle.flt_graph.specs.declared.instruction.Instruction.TheVariants as instruction
use Rattle.flt_explain_outcomes.specs.declared.unset.Unset.{Unset}

-- two anchors are one
abbrev pub same_anchor : Anchor → Anchor → Bool
same_anchor anchor.Stream anchor.Stream = true
same_anchor anchor.Instance anchor.Instance = true
same_anchor _ _ = false

-- a call sets a context on the anchor
abbrev pub is_setting : Anchor → Call → Bool
is_setting a (call.SetContext own existing) = same_anchor a own
is_setting a _ = false

-- a call succeeds only where a context is linked to the anchor. Source: FltGetStreamContext, FltDeleteStreamContext
abbrev pub is_asking : Anchor → Call → Bool
is_asking a (call.GetContext own) = same_anchor a own
is_asking a (call.DeleteContextOf own) = same_anchor a own
is_asking a _ = false

abbrev pub is_set_by : Anchor → Instruction → Bool
is_set_by a (instruction.Call c granted failed) = is_setting a (roles c).call
is_set_by a _ = false

abbrev pub is_asked_by : Anchor → Instruction → Bool
is_asked_by a (instruction.Call c granted failed) = is_asking a (roles c).call
is_asked_by a _ = false

abbrev pub is_set_in : Anchor → CallbackGraph → Bool
is_set_in a own = list_any (λ (point : Point). is_set_by a point.instruction) own.points

abbrev pub is_asked_in : Anchor → CallbackGraph → Bool
is_asked_in a own = list_any (λ (point : Point). is_asked_by a point.instruction) own.points

abbrev pub is_set : Graph → Anchor → Bool
is_set g a = list_any (is_set_in a) g.callbacks

abbrev pub is_asked : Graph → Anchor → Bool
is_asked g a = list_any (is_asked_in a) g.callbacks

-- some callback asks for the context of an anchor, and none sets one. A link is its filter's own, so no other filter sets it
abbrev pub is_unset : Graph → Anchor → Bool
is_unset g a = is_asked g a && not (is_set g a)

-- none of these anchors
abbrev pub nothing_unset : Unset
nothing_unset = record { stream = false; instance = false }

-- each of these anchors is asked for, and set by none
pub record AreUnset (g : Graph) (u : Unset) : Type 0 where
  pub stream : u.stream ≡ true → is_unset g anchor.Stream ≡ true
  pub instance : u.instance ≡ true → is_unset g anchor.Instance ≡ true

-- a call never succeeds where nothing sets a context on these
abbrev pub is_barren_call : Unset → Call → Bool
is_barren_call u (call.GetContext anchor.Stream) = u.stream
is_barren_call u (call.GetContext anchor.Instance) = u.instance
is_barren_call u (call.DeleteContextOf anchor.Stream) = u.stream
is_barren_call u (call.DeleteContextOf anchor.Instance) = u.instance
is_barren_call u _ = false

abbrev pub is_barren : Unset → Instruction → Bool
is_barren u (instruction.Call c granted failed) = is_barren_call u (roles c).call
is_barren u _ = false
