-- What `thin` says. This project's own program.
use Rattle.std.specs.Prelude.{◌≡◌, List, Result}
use Rattle.flt_cert.specs.Spelling.{spelling, thinned}
use Rattle.flt_check.specs.Accepting.{CertCovers, IsCertFault}
use Rattle.flt_commands_texts.specs.Check.{Deciding, IsDecided}
use Rattle.flt_files.specs.Inputs.{Text}
use Rattle.flt_commands_texts.specs.declared.answer.TextAnswer.{TextAnswer}
use Rattle.flt_commands_texts.specs.declared.answer.TextAnswer.TheVariants.{Refused, Certificate as Written}
use Rattle.flt_files.specs.declared.failure.Failure.{Failure}

-- the certificate covers the points, and the bytes spell what is left of it; or the refusal is the first that it earns
abbrev pub Decides : Deciding
Decides g c (Written bytes) = CertCovers g c × (bytes.items ≡ spelling (thinned g c))
Decides g c (Refused f) = IsCertFault g c f
Decides g c _ = ⊥

-- what `thin` says of the bytes of FILE, or of FILE and CERT
abbrev pub IsThinned : List Text → Result TextAnswer Failure → Type 0
IsThinned = IsDecided Decides
