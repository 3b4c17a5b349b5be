-- W05: the context that lost. Where FltSetStreamContext or FltSetInstanceContext with KEEP_IF_EXISTS fails since there is another context,
-- the caller's own is set on nothing: what is written there no other callback sees. This project's own check, by the graph: it is a sign,
-- and no proof that the context is the wrong one.
use Rattle.std.specs.Prelude.{ℕ, Bool, true, false, if◌then◌else◌, Option, None, option_map, option_and_then}
use Rattle.flt_rules.specs.declared.call.Call.{Call}
use Rattle.flt_rules.specs.declared.call.Call.TheVariants as call
use Rattle.flt_rules.specs.declared.call.Existing.TheVariants.{Keep}
use Rattle.flt_tree.specs.declared.variable.ContextVariable.{ContextVariable}
use Rattle.flt_graph.specs.Graph.{instruction_at}
use Rattle.flt_graph.specs.Instruction.{roles}
use Rattle.flt_graph.specs.declared.graph.Graph.{Graph}
use Rattle.flt_graph.specs.declared.instruction.Instruction.{Instruction}
use Rattle.flt_graph.specs.declared.instruction.Instruction.TheVariants as instruction
use Rattle.flt_graph.specs.declared.instruction.Invocation.{Invocation}
use Rattle.flt_cert.specs.Format.{Certificate}
use Rattle.flt_explain_warnings.specs.Flow.{end_from}
use Rattle.flt_explain_warnings.specs.Reading.{is_reached}
use Rattle.flt_explain_warnings.specs.declared.lost.Loss.{Loss}
use Rattle.flt_explain_warnings.specs.declared.trail.Trail.TheVariants.{Lost}
use Rattle.flt_explain_warnings.specs.declared.warning.Site.{Site}
use Rattle.flt_explain_warnings.specs.declared.warning.Warning.{Warning}
use Rattle.flt_explain_warnings.specs.declared.warning.Warning.TheVariants.{LostContext}

-- the call sets a context unless there is one
abbrev pub keeps : Call → Bool
keeps (call.SetContext a Keep) = true
keeps _ = false

-- the search from where the call fails: for its context, with the variable that receives the one that was there
abbrev pub loss_of : ℕ → Option ContextVariable → ContextVariable → Loss
loss_of refused there c = record { start = refused; trail = Lost c there }

-- the search of a call that keeps what is there
abbrev pub loss_by : Invocation → ℕ → Option Loss
loss_by c refused = if keeps c.call then option_map (loss_of refused c.output) c.context else None

-- the same of an instruction
abbrev pub loss_in : Instruction → Option Loss
loss_in (instruction.Call c granted refused) = loss_by (roles c) refused
loss_in _ = None

-- the same of a point that is reached
abbrev pub loss_at : Graph → Certificate → Site → Option Loss
loss_at g k s = if is_reached k s then loss_in (instruction_at g s.callback s.point) else None

-- the first point that uses the context
abbrev pub used_from : Graph → Site → Loss → Option ℕ
used_from g s l = end_from g s.callback l.trail l.start

-- the warning: the context that the point doesn't set is used at that point, the first of the callback that does so
abbrev pub lost_context : Graph → Certificate → Site → Option Warning
lost_context g k s = option_map (LostContext s) (option_and_then (used_from g s) (loss_at g k s))
