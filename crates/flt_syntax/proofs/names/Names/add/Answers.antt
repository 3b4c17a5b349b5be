use Rattle.std.proofs.Common.{not, ap, ◌∙◌}
use Rattle.flt_tree.specs.Names.{has_name}
use Rattle.flt_syntax.proofs.Numbers.{is_there}
use Rattle.flt_syntax.proofs.names.Names.add.Goals.{in-Ok, in-Err}
use Rattle.flt_syntax.proofs.names.Names.add.Goals as goal

pub returns-clause-new : goal.returns-clause-new
returns-clause-new c = elim c.match-insert_full.branch [
  | in-Ok w ↦ rw w.result-is
      (w.in-Ok.ensures.added ∙ ap not (is_there c.args.name.now c.self.inside.set.keys ∙ ap (has_name c.args.name.now) c.self.view_is))
  | in-Err w ↦ rw w.result-is tt
]
