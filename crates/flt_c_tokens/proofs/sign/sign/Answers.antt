use Rattle.flt_c_tokens.proofs.Lengths.{found_fits}
use Rattle.flt_c_tokens.proofs.sign.sign.Goals as goal

pub returns-clause-some : goal.returns-clause-some
returns-clause-some c =
    (found_fits c.args.z.now c.sign_of.result c.byte_at.result c.byte_at-2.result c.byte_at-3.result c.byte_at-4.result
    c.byte_at.ensures.value c.byte_at-2.ensures.value c.byte_at-3.ensures.value c.byte_at-4.ensures.value c.sign_of.ensures c.requires).0

pub returns-clause-within : goal.returns-clause-within
returns-clause-within c =
    (found_fits c.args.z.now c.sign_of.result c.byte_at.result c.byte_at-2.result c.byte_at-3.result c.byte_at-4.result
    c.byte_at.ensures.value c.byte_at-2.ensures.value c.byte_at-3.ensures.value c.byte_at-4.ensures.value c.sign_of.ensures c.requires).1
