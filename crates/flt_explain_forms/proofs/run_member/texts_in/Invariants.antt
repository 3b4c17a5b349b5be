use Rattle.std.proofs.Common.{◌≡◌, take}
use Rattle.flt_explain_forms.specs.RunMember.{texts_of}
use Rattle.flt_explain_forms.proofs.run_member.texts_in.Given as goal

abbrev pub invariant-loop-source : goal.invariant-loop-source
invariant-loop-source l = l.texts.items ≡ texts_of (take l.source-index l.sources)
