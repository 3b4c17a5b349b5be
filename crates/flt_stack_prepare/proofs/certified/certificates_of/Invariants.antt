use Rattle.std.specs.List.{AllZip}
use Rattle.flt_stack_prepare.specs.Certified.{IsGiven}
use Rattle.flt_stack_prepare.proofs.certified.certificates_of.Given as goal

abbrev pub invariant-answers : goal.invariant-answers
invariant-answers l = AllZip IsGiven l.yielded l.certificates.items
