use Rattle.std.proofs.Common.{◌≡◌, ◌++◌, drop}
use Rattle.flt_explain_runs.specs.Rows.{numbered, numbered_from}
use Rattle.flt_explain_runs.proofs.again_lines.numbered.Given as goal

abbrev pub invariant-loop-byte : goal.invariant-loop-byte
invariant-loop-byte l = l.out.items ++ numbered_from l.line l.begins (drop l.byte-index l.lines) ≡ numbered l.first l.lines
