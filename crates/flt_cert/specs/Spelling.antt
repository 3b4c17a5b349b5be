-- Certificates of either format and their spelling. This project's own format.
use Rattle.std.specs.Prelude.{◌≡◌, ℕ, suc, Bool, List, length, take, IsTrue}
use Rattle.flt_graph.specs.declared.graph.Graph.{Graph}
use Rattle.flt_cert.specs.declared.cert.Cert.{Cert}
use Rattle.flt_cert.specs.declared.cert.Cert.TheVariants as variant
use Rattle.flt_cert.specs.declared.fault.CertFault.{CertFault}
use Rattle.flt_cert.specs.declared.fault.CertFault.TheVariants.{Line, OutOfMemory}
use Rattle.flt_cert.specs.Text.{Text, lines_of}
use Rattle.flt_cert.specs.Format.{is_certificate, full_lines_for, joined}
use Rattle.flt_cert.specs.Thin.{is_thin, thin}
use Rattle.flt_cert.specs.ThinFormat.{thin_lines_for}

-- a full one gives all points, a thin one the first of each callback at least
abbrev pub is_cert : Cert → Bool
is_cert (variant.Full k) = is_certificate k
is_cert (variant.Thin t) = is_thin t

-- how many callbacks it has
abbrev pub callbacks_in : Cert → ℕ
callbacks_in (variant.Full k) = length k
callbacks_in (variant.Thin t) = length t

-- what is left of a full one; a thin one stays as it is
abbrev pub thinned : Graph → Cert → Cert
thinned g (variant.Full k) = variant.Thin (thin g k)
thinned g (variant.Thin t) = variant.Thin t

-- the lines of a certificate: format 1 for a full one, format 2 for a thin one
abbrev pub lines_for : Cert → List Text
lines_for (variant.Full k) = full_lines_for k
lines_for (variant.Thin t) = thin_lines_for t

-- the one spelling of a certificate
abbrev pub spelling : Cert → Text
spelling c = joined (lines_for c)

-- ---- texts that are no certificate

-- the first lines of a text, up to a number, are those of a certificate
abbrev pub Agree : ℕ → Text → Cert → Type 0
Agree n text c = take n (lines_of text) ≡ take n (lines_for c)

-- the first malformed line, counted from 1: the lines before it are the first of some certificate of either format, and
-- with it they are those of none; a missing line counts
pub record IsFirstFault (text : Text) (n : ℕ) : Type 0 where
  pub before : ℕ
  pub next : n ≡ suc before
  pub whose : Cert
  pub certificate : IsTrue (is_cert whose)
  pub begun : Agree before text whose
  pub stopped : (c : Cert) → IsTrue (is_cert c) → Agree n text c → ⊥

-- a fault names the first malformed line
abbrev pub IsFaultOf : Text → CertFault → Type 0
IsFaultOf text OutOfMemory = Unit {0}
IsFaultOf text (Line n) = IsFirstFault text n
