use Rattle.std.proofs.Common.{◌≡◌, ◌++◌, drop}
use Rattle.flt_commands_explain.specs.Html.{shown_files}
use Rattle.flt_commands_explain.proofs.html.shown_texts.Given as goal

abbrev pub invariant-loop-source : goal.invariant-loop-source
invariant-loop-source l = l.all ++ shown_files (drop l.source-index l.sources) ≡ shown_files l.sources
