use Rattle.std.proofs.Common.{arith}
use Rattle.std.specs.Prelude.{IsTrue}
use Rattle.flt_cert.specs.Spelling.{is_cert}
use Rattle.flt_check.specs.Accepting.{CertCovers}
use Rattle.flt_stack.proofs.Covered.{as_many, both_at}
use Rattle.flt_stack.proofs.lowered.are_ordered.Goals as goal

pub bounds-certificates-number : goal.bounds-certificates-number
bounds-certificates-number c =
    let many = as_many CertCovers c.args.graphs.now c.args.certificates.now c.requires.covered in
    omega (arith, many, c.loop-number-test.true)

pub is_ordered-requires-clause-covers : goal.is_ordered-requires-clause-covers
is_ordered-requires-clause-covers c =
    both_at CertCovers c.args.graphs.now c.args.certificates.now c.loop-number.number c.index-graphs-number.result _
    c.index-certificates-number.result _ c.requires.covered c.loop-number-test.true c.index-graphs-number.is
    c.index-certificates-number.is

pub is_ordered-requires-clause-certificate : goal.is_ordered-requires-clause-certificate
is_ordered-requires-clause-certificate c =
    both_at (λ g k. IsTrue (is_cert k)) c.args.graphs.now c.args.certificates.now c.loop-number.number c.index-graphs-number.result _
    c.index-certificates-number.result _ c.requires.certificates c.loop-number-test.true c.index-graphs-number.is
    c.index-certificates-number.is
