-- Certificates of either format: what is so of each is so of both.
use Rattle.std.proofs.Common.{◌≡◌}
use Rattle.std.specs.Prelude.{IsTrue}
use Rattle.flt_tree.specs.WellFormed.{IsWellFormed}
use Rattle.flt_tree.specs.declared.filter.Filter.{Filter}
use Rattle.flt_graph.specs.Lowering.{IsLowered}
use Rattle.flt_graph.specs.declared.graph.Graph.{Graph}
use Rattle.flt_cert.specs.Format.{Certificate, is_certificate}
use Rattle.flt_cert.specs.Spelling.{is_cert, thinned}
use Rattle.flt_cert.specs.Thin as thin
use Rattle.flt_cert.specs.declared.cert.Cert.{Cert}
use Rattle.flt_cert.specs.declared.cert.Cert.TheVariants.{Full, Thin}
use Rattle.flt_check.specs.Accepting.{CertCovers, IsCertFault, full_of}
use Rattle.flt_check.specs.Checker.{IsFaultless, IsLeastFault}
use Rattle.flt_check.specs.Covering.{Covers}
use Rattle.flt_check.specs.Full.{full}
use Rattle.flt_check.specs.ThinCovering.{CoversThin}
use Rattle.flt_check.specs.ThinFault.{IsThinFault}
use Rattle.flt_rules.specs.declared.refusal.Refusal.{Refusal}
use Rattle.flt_check.proofs.Covering.{least_not}
use Rattle.flt_check.proofs.Thin.Accepted.{fault_not}

-- what one stands for is a certificate
pub full_of_is_certificate : ((g : Graph) (t : thin.Thin) → IsTrue (thin.is_thin t) → IsTrue (is_certificate (full g t))) →
    (g : Graph) (c : Cert) → IsTrue (is_cert c) → IsTrue (is_certificate (full_of g c))
full_of_is_certificate fills g (Full k) good = good
full_of_is_certificate fills g (Thin t) good = fills g t good

-- and covers where it does
pub full_of_covers : (g : Graph) (c : Cert) → CertCovers g c → Covers g (full_of g c)
full_of_covers g (Full k) h = h
full_of_covers g (Thin t) h = h.covers

-- what is left of one covers where it does
pub thinned_covers : ((f : Filter) (g : Graph) (k : Certificate) → IsWellFormed f → IsLowered f g → IsTrue (is_certificate k) →
    Covers g k → CoversThin g (thin.thin g k)) →
    (f : Filter) (g : Graph) (c : Cert) → IsWellFormed f → IsLowered f g → IsTrue (is_cert c) → CertCovers g c → CertCovers g (thinned g c)
thinned_covers law f g (Full k) fine lowered good h = law f g k fine lowered good h
thinned_covers law f g (Thin t) fine lowered good h = h

-- two least faults of one are one
pub refused_once : ((g : Graph) (k : Certificate) (f h : Refusal) → IsLeastFault g k f → IsLeastFault g k h → f ≡ h) →
    ((g : Graph) (t : thin.Thin) (f h : Refusal) → IsThinFault g t f → IsThinFault g t h → f ≡ h) →
    (g : Graph) (c : Cert) (f h : Refusal) → IsCertFault g c f → IsCertFault g c h → f ≡ h
refused_once one also g (Full k) f h x y = one g k f h x y
refused_once one also g (Thin t) f h x y = also g t f h x y

-- what covers has none
pub not_refused : ((g : Graph) (k : Certificate) → Covers g k → IsFaultless g k) →
    (g : Graph) (c : Cert) (f : Refusal) → CertCovers g c → IsCertFault g c f → ⊥
not_refused faultless g (Full k) f h x = least_not g k f x (faultless g k h)
not_refused faultless g (Thin t) f h x = fault_not g t f x h.kept (faultless g (full g t) h.covers)
