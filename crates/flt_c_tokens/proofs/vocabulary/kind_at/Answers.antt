use Rattle.flt_c_tokens.proofs.Known.{kind_found, kind_missing}
use Rattle.flt_c_tokens.proofs.vocabulary.kind_at.Goals as goal

pub returns-in-Some : goal.returns-in-Some
returns-in-Some c =
    kind_found (λ e. (e.0.now, e.1)) c.vocabulary.result.now c.args.number c.in-Some.entry.now c.vocabulary.ensures
    c.in-Some.ensures.lookup.3.0 c.in-Some.ensures.lookup.1

pub returns-in-None : goal.returns-in-None
returns-in-None c =
    kind_missing (λ e. (e.0.now, e.1)) c.vocabulary.result.now c.args.number c.vocabulary.ensures c.in-None.ensures.lookup.3
