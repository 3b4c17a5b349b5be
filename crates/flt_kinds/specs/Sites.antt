-- The statements at which a context's kind is known or begins. Source: the driver kit's pages on contexts.
use Rattle.std.specs.Prelude.{ℕ, Bool, true, false, Option, Some, None}
use Rattle.flt_rules.specs.declared.call.Anchor.{Anchor}
use Rattle.flt_rules.specs.declared.call.Anchor.TheVariants.{Stream, Instance}
use Rattle.flt_rules.specs.declared.call.Call.{Call}
use Rattle.flt_rules.specs.declared.call.Call.TheVariants as call
use Rattle.flt_tree.specs.declared.variable.ContextVariable.{ContextVariable}
use Rattle.flt_graph.specs.Graph.{instruction_at}
use Rattle.flt_graph.specs.Instruction.{roles}
use Rattle.flt_graph.specs.declared.graph.Graph.{Graph}
use Rattle.flt_graph.specs.declared.instruction.Instruction.{Instruction}
use Rattle.flt_graph.specs.declared.instruction.Instruction.TheVariants as instruction
use Rattle.flt_kinds.specs.Flows.{spot}
use Rattle.flt_kinds.specs.declared.sites.ContextSite.{ContextSite}
use Rattle.flt_kinds.specs.declared.slot.Slot.{Slot}
use Rattle.flt_kinds.specs.declared.slot.Slot.TheVariants.{Variable}
use Rattle.flt_kinds.specs.declared.slot.Spot.{Spot}

-- whether two are one
abbrev pub same_anchor : Anchor → Anchor → Bool
same_anchor Stream Stream = true
same_anchor Instance Instance = true
same_anchor _ _ = false

abbrev pub in_variable : Spot → Option ContextVariable → Option Slot
in_variable at None = None
in_variable at (Some v) = Some (Variable at v)

-- whether a call sets a context on a stream, or on the instance
abbrev pub is_set : Anchor → Call → Bool
is_set anchor (call.SetContext found existing) = same_anchor anchor found
is_set anchor _ = false

abbrev pub only_where : {A : Type 0} → Bool → Option A → Option A
only_where true found = found
only_where false found = None

-- the variable whose context an instruction sets on a stream, or on the instance, if it does
abbrev pub set_by : Anchor → Instruction → Option ContextVariable
set_by anchor (instruction.Call i granted failed) = only_where (is_set anchor (roles i).call) (roles i).context
set_by anchor _ = None

unfoldable pub set_at : Graph → Anchor → ℕ → ℕ → Option ContextVariable
set_at g anchor callback point = set_by anchor (instruction_at g callback point)

abbrev pub is_allocation : Call → Bool
is_allocation call.AllocateContext = true
is_allocation _ = false

-- where the context is that an instruction allocates, if it does
abbrev pub begun_by : ℕ → Instruction → Option Slot
begun_by callback (instruction.Call i granted failed) =
    only_where (is_allocation (roles i).call) (in_variable (spot callback granted) (roles i).output)
begun_by callback _ = None

unfoldable pub begun_at : Graph → ℕ → ℕ → Option Slot
begun_at g callback point = begun_by callback (instruction_at g callback point)

-- what a call gives a context of, as it comes out; a Set gives the one that was there also where it fails
abbrev pub giver : Call → Bool → Option Anchor
giver (call.GetContext anchor) true = Some anchor
giver (call.SetContext anchor existing) outcome = Some anchor
giver (call.DeleteContextOf anchor) true = Some anchor
giver _ outcome = None

abbrev pub side : Bool → ℕ → ℕ → ℕ
side true granted failed = granted
side false granted failed = failed

abbrev pub gives : Option Anchor → Option Slot → Option ContextSite
gives (Some anchor) (Some slot) = Some (record { anchor = anchor; slot = slot })
gives _ _ = None

-- the stream's or the instance's context that an instruction gives, as it comes out, and where that is
abbrev pub given_by : ℕ → Bool → Instruction → Option ContextSite
given_by callback outcome (instruction.Call i granted failed) =
    gives (giver (roles i).call outcome) (in_variable (spot callback (side outcome granted failed)) (roles i).output)
given_by callback outcome _ = None

unfoldable pub given_at : Graph → ℕ → ℕ → Bool → Option ContextSite
given_at g callback point outcome = given_by callback outcome (instruction_at g callback point)
