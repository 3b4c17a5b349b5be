use Rattle.std.proofs.Common.{◌≡◌, drop, map}
use Rattle.flt_commands_texts.specs.Compare.{before, compared_from, found_as}
use Rattle.flt_commands_texts.proofs.compare.compare_texts.Given as goal

abbrev pub invariant-loop-number : goal.invariant-loop-number
invariant-loop-number l =
    before (found_as l.reports.items l.lines)
    (compared_from (map (λ name. name.now) l.names) l.number (map (λ file. file.items) (drop l.number l.files)))
    ≡ compared_from (map (λ name. name.now) l.names) 0 (map (λ file. file.items) l.files)
