use Rattle.std.proofs.Common.{refl, arith}
use Rattle.flt_check.specs.Accepting.{CertCovers}
use Rattle.flt_stack.proofs.Covered.{both_all, both_at, both_more, refusal_at}
use Rattle.flt_stack.proofs.lowered.first_refusal.Goals as goal

pub returns-in-Err-clause-covered : goal.returns-in-Err-clause-covered
returns-in-Err-clause-covered c = (
  λ none. absurd (cc none),
  λ all. (let ok = c.in-Err.ensures.accepted.1 (both_at CertCovers c.args.graphs.now c.args.certificates.now c.loop-number.number
      c.index-graphs-number.result _ c.index-certificates-number.result _ all c.loop-number-test.true c.index-graphs-number.is
      c.index-certificates-number.is) in cc),
)

pub returns-in-Err-clause-refused : goal.returns-in-Err-clause-refused
returns-in-Err-clause-refused c =
    refusal_at c.args.graphs.now c.args.certificates.now c.loop-number.number c.index-graphs-number.result _
    c.index-certificates-number.result _ c.loop-number-test.true c.requires c.index-graphs-number.is c.index-certificates-number.is
    c.in-Err.refusal c.loop-number.invariant c.in-Err.ensures.refused

pub loop-number-preserved : goal.loop-number-preserved
loop-number-preserved c =
    both_more CertCovers c.args.graphs.now c.args.certificates.now c.loop-number.number c.index-graphs-number.result _
    c.index-certificates-number.result _ c.loop-number.invariant c.loop-number-test.true c.requires c.index-graphs-number.is
    c.index-certificates-number.is (c.in_default.ensures.accepted.0 refl)

pub returns-clause-covered : goal.returns-clause-covered
returns-clause-covered c = (
  λ none. both_all CertCovers c.args.graphs.now c.args.certificates.now c.loop-number.number c.loop-number.invariant
      (omega arith) c.requires,
  λ all. refl,
)
