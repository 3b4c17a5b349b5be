use Rattle.std.proofs.Common.{subst}
use Rattle.flt_model.specs.declared.event.Event.TheVariants.{Free}
use Rattle.flt_replay.proofs.Counting.Noting.{freed_context}
use Rattle.flt_replay.specs.Ledger.{Tally, Tells, IsCounted, Noted}
use Rattle.flt_replay.specs.contracts.ledger.Ledger.{the_view}
use Rattle.flt_replay.proofs.ledger.Ledger.free.Goals as goal

pub returns : goal.returns
returns c = λ t was.
    let old : Tally = the_view c.self.inside in
    let notes : Tally → Type 0 = λ before. Tells t before → IsCounted before →
    Noted t (Free c.args.context) before (record old { freed = c.add.new.self }) was was in
    subst notes c.self.view_is (λ k counted. freed_context t old was k counted c.args.context c.add.new.self c.in_ok-add.ensures.ok)
