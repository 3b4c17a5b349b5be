use Rattle.std.proofs.Common.{◌∙◌, [], ◌∷◌, sym, ap, subst}
use Rattle.flt_model.specs.Expansion.{entry_course}
use Rattle.flt_model.specs.Steps.{Board}
use Rattle.flt_replay.specs.Monitoring.{ComesTo}
use Rattle.flt_replay.proofs.Judging.Courses.{in_other_words, go_on_more}
use Rattle.flt_replay.proofs.monitor.Monitor.go.Goals as goal

pub returns : goal.returns
returns c =
    in_other_words _ _ c.go_seen.result
    (λ course comes m at.
    let on = rw c.if-not-branch.false at c.in_ok-go_unseen.ensures c.args.stack.now m (Board c.args.a c.args.grant ∷ []) at in
    subst (λ k. ComesTo course c.go_seen.new.self k)
    (sym (ap (entry_course c.args.stack.now m) (go_on_more c.args.a c.args.steps c.args.grant c.if-steps-eq0.false) ∙ on.2))
    (comes on.0 on.1))
    c.go_seen.ensures
