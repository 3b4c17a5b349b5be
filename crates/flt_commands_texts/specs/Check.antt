-- What `check` says. This project's own program.
use Rattle.std.specs.Prelude.{◌≡◌, ℕ, List, [], ◌∷◌, take, drop, IsTrue, Result, Ok, Err}
use Rattle.flt_syntax.specs.Spelling.{Spells}
use Rattle.flt_syntax.specs.TextFails.{Fails}
use Rattle.flt_tree.specs.declared.filter.Filter.{Filter}
use Rattle.flt_graph.specs.Lowering.{IsLowered}
use Rattle.flt_graph.specs.declared.graph.Graph.{Graph}
use Rattle.flt_cert.specs.Spelling.{is_cert, spelling, IsFirstFault}
use Rattle.flt_cert.specs.declared.cert.Cert.{Cert}
use Rattle.flt_check.specs.Accepting.{CertCovers, IsCertFault}
use Rattle.flt_files.specs.Inputs.{Text}
use Rattle.flt_files.specs.Split.{IsCertificateStart}
use Rattle.flt_commands_texts.specs.declared.answer.TextAnswer.{TextAnswer}
use Rattle.flt_commands_texts.specs.declared.answer.TextAnswer.TheVariants.{Accepted, Refused}
use Rattle.flt_files.specs.declared.failure.Failure.{Failure}
use Rattle.flt_files.specs.declared.failure.Failure.TheVariants.{Syntax, Certificate as CertificateLine, OutOfMemory}

-- the text spells a filter, and these are its points
pub record HasPoints (text : Text) (graph : Graph) : Type 0 where
  pub filter : Filter
  pub spelled : Spells text filter
  pub lowered : IsLowered filter graph

-- what may be answered of the points of a text and a certificate
abbrev pub Deciding : Type 1
Deciding = Graph → Cert → TextAnswer → Type 0

-- the certificate covers the points, or the refusal is the first that it earns
abbrev pub Decides : Deciding
Decides g c Accepted = CertCovers g c
Decides g c (Refused f) = IsCertFault g c f
Decides g c _ = ⊥

-- the text spells a filter, the bytes spell a certificate, and this is decided of them
pub record IsAnswer (decides : Deciding) (text certificate : Text) (answer : TextAnswer) : Type 0 where
  pub graph : Graph
  pub points : HasPoints text graph
  pub cert : Cert
  pub certified : IsTrue (is_cert cert)
  pub written : certificate ≡ spelling cert
  pub decided : decides graph cert answer

-- the first fault of the text, or else the first of the certificate; memory may run out
abbrev pub IsFailure : Text → Text → Failure → Type 0
IsFailure text certificate (Syntax f) = Fails text f
IsFailure text certificate (CertificateLine n) = ((f : Filter) × Spells text f) × IsFirstFault certificate n
IsFailure text certificate OutOfMemory = Unit {0}
IsFailure text certificate _ = ⊥

-- what is said of a text and a certificate
abbrev pub Judges : Deciding → Text → Text → Result TextAnswer Failure → Type 0
Judges decides text certificate (Ok a) = IsAnswer decides text certificate a
Judges decides text certificate (Err f) = IsFailure text certificate f

-- the same of a text and a certificate in one input
abbrev pub JudgesTogether : Deciding → Text → Result TextAnswer Failure → Type 0
JudgesTogether decides bytes result =
    (start : ℕ) × IsCertificateStart bytes start × Judges decides (take start bytes) (drop start bytes) result

-- what is said of the bytes of FILE, or of FILE and CERT
abbrev pub IsDecided : Deciding → List Text → Result TextAnswer Failure → Type 0
IsDecided decides (bytes ∷ []) result = JudgesTogether decides bytes result
IsDecided decides (text ∷ certificate ∷ []) result = Judges decides text certificate result
IsDecided decides _ result = ⊥

-- the same by `check`
abbrev pub IsChecked : List Text → Result TextAnswer Failure → Type 0
IsChecked = IsDecided Decides
