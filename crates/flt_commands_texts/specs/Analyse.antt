-- What `analyse` says. This project's own program.
use Rattle.std.specs.Prelude.{◌≡◌, List, [], ◌∷◌, IsTrue, Result, Ok, Err}
use Rattle.flt_syntax.specs.TextFails.{Fails}
use Rattle.flt_graph.specs.declared.graph.Graph.{Graph}
use Rattle.flt_cert.specs.Format.{Certificate, is_certificate}
use Rattle.flt_cert.specs.Spelling.{spelling, thinned}
use Rattle.flt_cert.specs.declared.cert.Cert.TheVariants.{Full}
use Rattle.flt_check.specs.Covering.{Covers}
use Rattle.flt_rules.specs.declared.refusal.Refusal.{Refusal}
use Rattle.flt_analyse.specs.Least.{IsLeast, NoneCovers, IsNamed}
use Rattle.flt_commands_texts.specs.Check.{HasPoints}
use Rattle.flt_files.specs.Inputs.{Text}
use Rattle.flt_commands_texts.specs.declared.answer.TextAnswer.{TextAnswer}
use Rattle.flt_commands_texts.specs.declared.answer.TextAnswer.TheVariants.{Refused, Certificate as Written}
use Rattle.flt_files.specs.declared.failure.Failure.{Failure}
use Rattle.flt_files.specs.declared.failure.Failure.TheVariants.{Syntax, OutOfMemory}

-- the text spells a filter, and the bytes spell what is left of the least certificate that covers its points
pub record IsCertified (text bytes : Text) : Type 0 where
  pub graph : Graph
  pub points : HasPoints text graph
  pub cert : Certificate
  pub certified : IsTrue (is_certificate cert)
  pub covers : Covers graph cert
  pub least : IsLeast graph cert
  pub written : bytes ≡ spelling (thinned graph (Full cert))

-- the text spells a filter, no certificate covers its points, and this is the fault that is met first
pub record IsRefused (text : Text) (f : Refusal) : Type 0 where
  pub graph : Graph
  pub points : HasPoints text graph
  pub none : NoneCovers graph
  pub named : IsNamed graph f

-- the first fault of the text; memory may run out
abbrev pub IsFailure : Text → Failure → Type 0
IsFailure text (Syntax f) = Fails text f
IsFailure text OutOfMemory = Unit {0}
IsFailure text _ = ⊥

-- what is said of a text
abbrev pub Judges : Text → Result TextAnswer Failure → Type 0
Judges text (Ok (Written certificate)) = IsCertified text certificate.items
Judges text (Ok (Refused f)) = IsRefused text f
Judges text (Ok _) = ⊥
Judges text (Err f) = IsFailure text f

-- what is said of the bytes of FILE
abbrev pub IsAnalysed : List Text → Result TextAnswer Failure → Type 0
IsAnalysed (text ∷ []) result = Judges text result
IsAnalysed _ result = ⊥
