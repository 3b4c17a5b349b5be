use Rattle.std.proofs.Common.{◌≡◌, ◌++◌, ◌-◌}
use Rattle.flt_explain_warnings.specs.Warnings.{warned_in_from, warned_in_all}
use Rattle.flt_explain_warnings.proofs.of_text.add_all.Given as goal

-- what was found, with what the callbacks that are left have, is what all callbacks have
abbrev pub invariant-loop-callback : goal.invariant-loop-callback
invariant-loop-callback l =
    l.warnings ++ warned_in_from l.graph l.cert l.uses l.kind l.callback (l.callback-end - l.callback)
    ≡ l.fn.warnings ++ warned_in_all l.graph l.cert l.uses l.kind
