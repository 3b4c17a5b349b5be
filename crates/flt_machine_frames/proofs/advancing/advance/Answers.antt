use Rattle.std.proofs.Common.{sym}
use Rattle.flt_model.specs.Program.{filter_at}
use Rattle.flt_machine_frames.proofs.Filters.{loaded_at}
use Rattle.flt_machine_frames.proofs.Ways.{stays}
use Rattle.flt_machine_frames.proofs.advancing.advance.Goals as goal

pub returns-in-Some-clause-advance : goal.returns-in-Some-clause-advance
returns-in-Some-clause-advance c = λ p made.
    c.go_locally.ensures.advance (filter_at p c.args.frame.filter)
    (loaded_at p c.args.loaded.now.graphs c.args.frame.filter c.in-Some.graph.now made.graphs (sym c.in-Some.ensures.value))

pub returns-in-None-clause-advance : goal.returns-in-None-clause-advance
returns-in-None-clause-advance c = λ p made. stays p c.args.loaded.now.graphs c.args.frame made.graphs (sym c.in-None.ensures.value)
