use Rattle.std.proofs.Common.{◌≡◌, ◌++◌, drop}
use Rattle.flt_explain_hints.specs.Telling.{further}
use Rattle.flt_explain_hints.proofs.telling.further.Given as goal

abbrev pub invariant-loop-name : goal.invariant-loop-name
invariant-loop-name l = l.out.items ++ further (drop l.name-index l.names) ≡ l.fn.out.items ++ further l.names
