use Rattle.std.proofs.Common.{◌≡◌, ◌++◌, drop, flat_map}
use Rattle.flt_commands_explain.specs.Drifts.{part}
use Rattle.flt_commands_explain.proofs.drifts.tell_drifts.Given as goal

abbrev pub invariant-loop-file : goal.invariant-loop-file
invariant-loop-file l = l.printed.items ++ flat_map (part l.form) (drop l.file-index l.drifted) ≡ flat_map (part l.form) l.drifted
