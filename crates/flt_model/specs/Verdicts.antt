-- Violations and verdicts, as they are printed. This project's own format.
use Rattle.std.specs.Prelude.{ℕ, List, ◌++◌, codes}
use Rattle.std.specs.Fmt.{decimal}
use Rattle.flt_model.specs.declared.verdict.Verdict.{Verdict}
use Rattle.flt_model.specs.declared.verdict.Verdict.TheVariants.{Legal, NotARun, Breaks}
use Rattle.flt_model.specs.declared.verdict.Violation.{Violation}
use Rattle.flt_model.specs.declared.verdict.Violation.TheVariants.{V1, V2, V3, V4, V5, V6, V7, V8}

-- the number of a violation; of several at one moment the least is reported
abbrev pub violation_number : Violation → ℕ
violation_number V1 = 1
violation_number V2 = 2
violation_number V3 = 3
violation_number V4 = 4
violation_number V5 = 5
violation_number V6 = 6
violation_number V7 = 7
violation_number V8 = 8

-- the number as it is printed
abbrev pub violation_name : Violation → List ℕ
violation_name V1 = codes "V1"
violation_name V2 = codes "V2"
violation_name V3 = codes "V3"
violation_name V4 = codes "V4"
violation_name V5 = codes "V5"
violation_name V6 = codes "V6"
violation_name V7 = codes "V7"
violation_name V8 = codes "V8"

-- the verdict about a journal, as `replay` prints it
abbrev pub verdict_line : Verdict → List ℕ
verdict_line Legal = codes "legal"
verdict_line (NotARun n) = codes "not a run at " ++ decimal n
verdict_line (Breaks v n) = codes "breaks " ++ violation_name v ++ codes " at " ++ decimal n
