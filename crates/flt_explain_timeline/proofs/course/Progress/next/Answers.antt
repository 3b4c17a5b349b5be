use Rattle.std.proofs.Common.{Bool, None, Result, ap, subst, ◌∙◌}
use Rattle.flt_explain_timeline.specs.Course.{IsEntered, entry_of}
use Rattle.flt_explain_timeline.specs.declared.course.Progress.{Progress}
use Rattle.flt_explain_timeline.specs.declared.refusal.Refusal.{Refusal}
use Rattle.flt_explain_timeline.specs.declared.running.DescribedEntry.{DescribedEntry}
use Rattle.flt_explain_timeline.proofs.NextEntry.{refused_goes, refused_stops}
use Rattle.flt_explain_timeline.proofs.course.Progress.next.Goals as goal

pub returns-in-Ok-clause-refused : goal.returns-in-Ok-clause-refused
returns-in-Ok-clause-refused c es =
    let P : Result DescribedEntry Refusal → Type 0 = λ r.
    IsEntered r c.tell.new.self (entry_of c.args.stage.now.stack.now c.args.scene.now c.args.entry) in
    refused_goes c.args.stage.now.stack.now c.args.verdict c.args.number c.args.self.now c.made.new.self c.args.scene.now c.tell.new.self
    c.args.entry es c.in-Ok.here c.if-self.false (subst P c.in-Ok.is c.in_ok-here.ensures)
    (c.made.ensures.after
    ∙ ap (λ (b : Bool). let r : Progress = record { is_over = b; alive = c.in-Ok.here.telling.alive; refusal = None } in r)
    c.ends_at.ensures)

pub returns-in-Err-clause-refused : goal.returns-in-Err-clause-refused
returns-in-Err-clause-refused c es =
    let P : Result DescribedEntry Refusal → Type 0 = λ r.
    IsEntered r c.tell.new.self (entry_of c.args.stage.now.stack.now c.args.scene.now c.args.entry) in
    refused_stops c.args.stage.now.stack.now c.args.verdict c.args.number c.args.self.now c.stopped.new.self
    c.args.scene.now c.tell.new.self
    c.args.entry es c.in-Err.why c.if-self.false (subst P c.in-Err.is c.in_ok-here.ensures) c.stopped.ensures.after
