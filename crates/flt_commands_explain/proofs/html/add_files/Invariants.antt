use Rattle.std.proofs.Common.{◌≡◌, ◌++◌, drop, map}
use Rattle.flt_commands_explain.specs.Html.{shown_file}
use Rattle.flt_commands_explain.proofs.html.add_files.Given as goal

abbrev pub invariant-loop-file : goal.invariant-loop-file
invariant-loop-file l = l.all ++ map shown_file (drop l.file-index l.files) ≡ l.fn.all ++ map shown_file l.files
