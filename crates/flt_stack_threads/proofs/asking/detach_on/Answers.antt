use Rattle.std.proofs.Common.{List, ◌++◌, ap, ◌∙◌}
use Rattle.std.proofs.lemmas.Result.{on_ok_weaker}
use Rattle.flt_model.specs.declared.subject.Subject.{Subject}
use Rattle.flt_stack_threads.specs.Places.{put_by}
use Rattle.flt_stack_threads.proofs.asking.detach_on.Goals as goal

pub returns-clause-tickets : goal.returns-clause-tickets
returns-clause-tickets g c =
    on_ok_weaker c.detach.result (λ _. λ p are m at. c.in_ok-put_all.ensures.put
    ∙ ap (λ (ts : List Subject). (put_by c.args.seat.now.place).put ++ ts) (c.as_slice.ensures.value ∙ c.in_ok-next.ensures p are m at))
    c.detach.ensures.entry
