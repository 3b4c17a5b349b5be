-- Certificates of the filters that texts spell. This project's own program.
use Rattle.std.specs.Prelude.{◌≡◌, ℕ, List, ◌∷◌, ◌++◌, length, IsTrue}
use Rattle.std.specs.List.{AllZip}
use Rattle.flt_analyse.specs.Least.{NoneCovers, IsNamed}
use Rattle.flt_cert.specs.Format.{Certificate, is_certificate, full_spelling}
use Rattle.flt_check.specs.Covering.{Covers}
use Rattle.flt_rules.specs.declared.refusal.Refusal.{Refusal}
use Rattle.flt_stack_prepare.specs.declared.fault.RunFault.{RunFault}
use Rattle.flt_stack_prepare.specs.declared.fault.RunFault.TheVariants as fault
use Rattle.flt_graph.specs.Lowering.{IsLowered}
use Rattle.flt_graph.specs.declared.graph.Graph.{Graph}
use Rattle.flt_model.specs.Streams.{Text}
use Rattle.flt_syntax.specs.declared.texts.TextsFault.{TextsFault}
use Rattle.flt_syntax.specs.declared.texts.TextsFault.TheVariants as unread
use Rattle.flt_tree.specs.declared.filter.Filter.{Filter}

-- ---- texts

-- how a fault of a text is told
abbrev pub of_texts : TextsFault → RunFault
of_texts (unread.Syntax number f) = fault.Syntax number f
of_texts unread.OutOfMemory = fault.OutOfMemory

-- ---- certificates

-- the bytes spell a certificate that covers the filter's points
pub record HasCertificate (filter : Filter) (bytes : Text) : Type 0 where
  pub graph : Graph
  pub lowered : IsLowered filter graph
  pub certificate : Certificate
  pub certified : IsTrue (is_certificate certificate)
  pub covers : Covers graph certificate
  pub written : bytes ≡ full_spelling certificate

abbrev pub HaveCertificates : List Filter → List Text → Type 0
HaveCertificates = AllZip HasCertificate

-- no certificate covers the filter's points, and this is the fault that is met first
pub record IsRefused (filter : Filter) (f : Refusal) : Type 0 where
  pub graph : Graph
  pub lowered : IsLowered filter graph
  pub none : NoneCovers graph
  pub named : IsNamed graph f

-- the first filter that no certificate covers, by its number, and its refusal
pub record IsFirstRefused (filters : List Filter) (number : ℕ) (f : Refusal) : Type 0 where
  pub before : List Filter
  pub filter : Filter
  pub after : List Filter
  pub parts : filters ≡ before ++ filter ∷ after
  pub certificates : List Text
  pub covered : HaveCertificates before certificates
  pub counted : number ≡ length before
  pub refused : IsRefused filter f

-- memory ran out, or the filters have this refusal
abbrev pub FiltersFail : List Filter → RunFault → Type 0
FiltersFail filters fault.OutOfMemory = Unit {0}
FiltersFail filters (fault.Refused number f) = IsFirstRefused filters number f
FiltersFail filters _ = ⊥
