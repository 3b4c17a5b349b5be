use Rattle.std.proofs.Common.{◌≡◌, ◌++◌, drop}
use Rattle.flt_files.specs.Inputs.{unread_names}
use Rattle.flt_commands_explain.specs.Sources.{refused_names}
use Rattle.flt_commands_explain.proofs.sources.add_refused.Given as goal

abbrev pub invariant-loop-flaw : goal.invariant-loop-flaw
invariant-loop-flaw l =
    unread_names l.unread.items ++ refused_names l.files (drop l.flaw-index l.refused)
    ≡ unread_names l.fn.unread.items ++ refused_names l.files l.refused
