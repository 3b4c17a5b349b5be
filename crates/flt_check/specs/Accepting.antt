-- Certificates of either format that cover a text, and the first fault of one that doesn't. This project's own definitions.
use Rattle.flt_graph.specs.declared.graph.Graph.{Graph}
use Rattle.flt_cert.specs.Format.{Certificate}
use Rattle.flt_cert.specs.declared.cert.Cert.{Cert}
use Rattle.flt_cert.specs.declared.cert.Cert.TheVariants.{Full, Thin}
use Rattle.flt_check.specs.Checker.{IsLeastFault}
use Rattle.flt_check.specs.Covering.{Covers}
use Rattle.flt_check.specs.Full.{full}
use Rattle.flt_check.specs.ThinCovering.{CoversThin}
use Rattle.flt_check.specs.ThinFault.{IsThinFault}
use Rattle.flt_rules.specs.declared.refusal.Refusal.{Refusal}

-- a full certificate covers by what it says, a thin one by what follows from it
abbrev pub CertCovers : Graph → Cert → Type 0
CertCovers g (Full k) = Covers g k
CertCovers g (Thin t) = CoversThin g t

-- the first fault of either
abbrev pub IsCertFault : Graph → Cert → Refusal → Type 0
IsCertFault g (Full k) f = IsLeastFault g k f
IsCertFault g (Thin t) f = IsThinFault g t f

-- the full certificate for which one stands
abbrev pub full_of : Graph → Cert → Certificate
full_of g (Full k) = k
full_of g (Thin t) = full g t
