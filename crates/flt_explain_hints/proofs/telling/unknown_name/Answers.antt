use Rattle.std.specs.Prelude.{codes}
use Rattle.flt_explain_hints.specs.Telling.{found, unknown_name}
use Rattle.flt_explain_hints.proofs.Written.{two_pieces}
use Rattle.flt_explain_hints.proofs.telling.unknown_name.Goals as goal

pub returns : goal.returns
unfolding unknown_name
returns c =
    two_pieces c.found.result c.args.out.now.items _ _ (codes "unknown name ")
    (found c.args.trouble.now) c.in_ok-text.ensures c.found.ensures
