-- What the analyser answers for the filters, and what is taken from it. This project's own program.
use Rattle.std.specs.Prelude.{◌≡◌, ℕ, List, take, Some, Result, Ok, Err, IsTrue, slice_get}
use Rattle.std.specs.List.{AllZip}
use Rattle.flt_cert.specs.Format.{Certificate, is_certificate}
use Rattle.flt_cert.specs.declared.cert.Cert.{Cert}
use Rattle.flt_cert.specs.declared.cert.Cert.TheVariants.{Full}
use Rattle.flt_rules.specs.declared.refusal.Refusal.{Refusal}
use Rattle.flt_stack_prepare.specs.declared.fault.RunFault.{RunFault}
use Rattle.flt_stack_prepare.specs.declared.fault.RunFault.TheVariants as fault

-- an answer is this certificate
abbrev pub IsGiven : Result Certificate Refusal → Cert → Type 0
IsGiven (Ok k) c = (c ≡ Full k) × IsTrue (is_certificate k)
IsGiven (Err f) c = ⊥

-- the answer of a number is the first refusal
pub record IsFirstErr (answers : List (Result Certificate Refusal)) (number : ℕ) (f : Refusal) : Type 0 where
  pub certificates : List Cert
  pub given : AllZip IsGiven (take number answers) certificates
  pub there : slice_get answers number ≡ Some (Err f)

-- memory ran out, or the answers have this refusal
abbrev pub StopsAt : List (Result Certificate Refusal) → RunFault → Type 0
StopsAt answers fault.OutOfMemory = Unit {0}
StopsAt answers (fault.Refused number f) = IsFirstErr answers number f
StopsAt answers _ = ⊥
