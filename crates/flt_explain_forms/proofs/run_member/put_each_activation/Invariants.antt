use Rattle.std.proofs.Common.{flat_map, take}
use Rattle.flt_explain_parts.specs.Members.{Added}
use Rattle.flt_explain_forms.specs.RunMember.{activation}
use Rattle.flt_explain_forms.proofs.run_member.put_each_activation.Given as goal

abbrev pub invariant-loop-activation : goal.invariant-loop-activation
invariant-loop-activation l =
    Added l.initial.writer l.writer (flat_map (activation l.sources l.run) (take l.activation-index l.run.flow.activations))
