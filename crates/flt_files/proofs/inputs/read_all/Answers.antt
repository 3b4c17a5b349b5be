use Rattle.std.proofs.lemmas.Result.{IfOk-weaker, IfErr-weaker}
use Rattle.flt_files.proofs.Firsts.{given_behind_none, fail_behind_none}
use Rattle.flt_files.proofs.inputs.read_all.Goals as goal

pub returns-clause-ok : goal.returns-clause-ok
returns-clause-ok g c = IfOk-weaker c.read_behind.result _ _ (λ texts behind. given_behind_none _ _ _ behind) c.read_behind.ensures.ok

pub returns-clause-err : goal.returns-clause-err
returns-clause-err g c = IfErr-weaker c.read_behind.result _ _ (λ f behind. fail_behind_none _ _ f behind) c.read_behind.ensures.err
