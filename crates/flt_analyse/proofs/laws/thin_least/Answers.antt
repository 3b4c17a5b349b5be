use Rattle.std.proofs.Common.{◌≡◌}
use Rattle.flt_cert.specs.Thin.{thin}
use Rattle.flt_check.specs.Full.{full}
use Rattle.flt_analyse.proofs.LeastOnce.{below_least}
use Rattle.flt_analyse.proofs.laws.thin_least.Goals as goal

pub returns : goal.returns
returns c =
    let one = c.one_certificate_is_least.ensures in
    let laws = c.thin_certificates_cover.ensures in
    let transitive = c.joins_are_least.ensures.transitive in
    record {
      rising = λ g k rising good covers least. one g (full g (thin g k)) k (laws.rising g k rising good covers).covers
          (below_least transitive g k (full g (thin g k)) least (laws.below g k good covers)) covers least;
      least = λ f g k fine low good covers least. one g (full g (thin g k)) k (laws.covers f g k fine low good covers).covers
          (below_least transitive g k (full g (thin g k)) least (laws.below g k good covers)) covers least;
    }
