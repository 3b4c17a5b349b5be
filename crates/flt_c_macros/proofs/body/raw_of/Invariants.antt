use Rattle.std.proofs.Common.{◌≡◌, drop}
use Rattle.std.specs.Prelude.{Some}
use Rattle.flt_c_macros.specs.Bodies.{raw_of}
use Rattle.flt_c_macros.proofs.body.raw_of.Given as goal

abbrev pub invariant-loop-argument : goal.invariant-loop-argument
invariant-loop-argument l = raw_of l.given (Some l.name) ≡ raw_of (drop l.argument-index l.given) (Some l.name)
