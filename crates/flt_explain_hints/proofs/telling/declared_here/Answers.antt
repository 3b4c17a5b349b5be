use Rattle.std.proofs.Common.{[], ◌∷◌}
use Rattle.std.specs.Prelude.{codes}
use Rattle.flt_explain_hints.specs.Telling.{declared_here, further, quoted}
use Rattle.flt_explain_hints.proofs.Written.{four_pieces}
use Rattle.flt_explain_hints.proofs.telling.declared_here.Goals as goal

pub returns : goal.returns
unfolding declared_here
returns c =
    four_pieces c.text-2.result c.args.out.now.items _ _ _ _ (codes "   = note: declared here: ") (quoted c.args.name.now)
    (further c.args.names.now) (10 ∷ []) c.in_ok-text.ensures c.in_ok-quoted.ensures c.in_ok-further.ensures c.text-2.ensures
