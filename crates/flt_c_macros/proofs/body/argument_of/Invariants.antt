use Rattle.std.proofs.Common.{◌≡◌, drop}
use Rattle.flt_c_macros.specs.Bodies.{argument_of}
use Rattle.flt_c_macros.proofs.body.argument_of.Given as goal

abbrev pub invariant-loop-argument : goal.invariant-loop-argument
invariant-loop-argument l = argument_of l.given l.name ≡ argument_of (drop l.argument-index l.given) l.name
