-- W06: statements that no path reaches, by the certificate: it has no state for their points. This project's own check.
use Rattle.std.specs.Prelude.{◌-◌, Bool, true, false, not, ◌==◌, ◌&&◌, ◌||◌, if◌then◌else◌, Option, Some, None}
use Rattle.flt_graph.specs.Graph.{instruction_at}
use Rattle.flt_graph.specs.declared.graph.Graph.{Graph}
use Rattle.flt_graph.specs.declared.instruction.Instruction.{Instruction}
use Rattle.flt_graph.specs.declared.instruction.Instruction.TheVariants as instruction
use Rattle.flt_cert.specs.Format.{Certificate}
use Rattle.flt_explain_warnings.specs.Reading.{is_reached}
use Rattle.flt_explain_warnings.specs.Warning.{site}
use Rattle.flt_explain_warnings.specs.declared.warning.Site.{Site}
use Rattle.flt_explain_warnings.specs.declared.warning.Warning.{Warning}
use Rattle.flt_explain_warnings.specs.declared.warning.Warning.TheVariants.{Unreached}

-- the point is the first of its callback, or the one before it in the text is reached
abbrev pub is_first : Certificate → Site → Bool
is_first k s = (s.point == 0) || is_reached k (site s.callback (s.point - 1))

-- the instruction is a statement's, and not the end of the body
abbrev pub is_statement : Instruction → Bool
is_statement instruction.End = false
is_statement _ = true

-- the warning: the point isn't reached, while the one before it is
abbrev pub unreached : Graph → Certificate → Site → Option Warning
unreached g k s =
    if not (is_reached k s) && (is_first k s && is_statement (instruction_at g s.callback s.point)) then Some (Unreached s) else None
