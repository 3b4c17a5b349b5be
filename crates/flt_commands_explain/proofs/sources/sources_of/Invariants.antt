use Rattle.std.proofs.Common.{take}
use Rattle.std.specs.List.{AllZip}
use Rattle.flt_commands_explain.specs.Sources.{IsSourceIn}
use Rattle.flt_commands_explain.proofs.sources.sources_of.Given as goal

abbrev pub invariant-loop-joined : goal.invariant-loop-joined
invariant-loop-joined l = AllZip (IsSourceIn l.files) (take l.joined-index l.texts) l.sources.items
