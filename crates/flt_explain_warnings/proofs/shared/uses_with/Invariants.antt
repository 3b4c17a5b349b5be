use Rattle.std.proofs.Common.{◌≡◌, ◌++◌, ◌-◌}
use Rattle.flt_explain_warnings.specs.Shared.{uses_from, uses_with}
use Rattle.flt_explain_warnings.proofs.shared.uses_with.Given as goal

-- what was found, with what the callbacks that are left have, is what all callbacks have
abbrev pub invariant-loop-callback : goal.invariant-loop-callback
invariant-loop-callback l =
    l.uses ++ uses_from l.graph l.handed l.callback (l.callback-end - l.callback) ≡ uses_with l.graph l.handed
