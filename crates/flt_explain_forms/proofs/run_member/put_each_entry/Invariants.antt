use Rattle.std.proofs.Common.{flat_map, take}
use Rattle.flt_explain_parts.specs.Members.{Added}
use Rattle.flt_explain_forms.specs.RunMember.{entry}
use Rattle.flt_explain_forms.proofs.run_member.put_each_entry.Given as goal

abbrev pub invariant-loop-step : goal.invariant-loop-step
invariant-loop-step l = Added l.initial.writer l.writer (flat_map (entry l.texts l.run) (take l.step-index l.run.flow.steps))
