-- What comes before a run fails for equal altitudes last.
use Rattle.std.proofs.Common.{List, length}
use Rattle.flt_stack_prepare.specs.Preparing.{Fails, IsAltitudeFault, IsScript}
use Rattle.flt_stack_prepare.specs.Texts.{HaveCertificates}
use Rattle.flt_stack_prepare.specs.declared.fault.RunFault.{RunFault}
use Rattle.flt_stack_prepare.specs.declared.fault.RunFault.TheVariants as fault
use Rattle.flt_model.specs.Streams.{Text}
use Rattle.flt_stack_script.specs.ScriptText.{Commands}
use Rattle.flt_stack.specs.Loading.{IsCount}
use Rattle.flt_syntax.specs.Texts.{AreSpelled}
use Rattle.flt_tree.specs.declared.filter.Filter.{Filter}

-- filters that are covered, and for which a script is one, have an altitude twice, or memory ran out
pub altitude_fails : (script : Text) (texts : List Text) (filters : List Filter) (commands : Commands) (e : RunFault) →
    IsCount (length texts) → AreSpelled texts filters → IsScript filters script commands →
    (bytes : List Text) × HaveCertificates filters bytes → IsAltitudeFault filters e → Fails script texts e
altitude_fails script texts filters commands (fault.Altitude number) counted spelled read covered repeated =
    (counted, (filters, spelled, (commands, read), covered, repeated))
altitude_fails script texts filters commands fault.OutOfMemory counted spelled read covered wrong = tt
altitude_fails script texts filters commands fault.Count counted spelled read covered wrong = absurd wrong
altitude_fails script texts filters commands (fault.Syntax number f) counted spelled read covered wrong = absurd wrong
altitude_fails script texts filters commands (fault.Script line) counted spelled read covered wrong = absurd wrong
altitude_fails script texts filters commands (fault.Refused number f) counted spelled read covered wrong = absurd wrong
