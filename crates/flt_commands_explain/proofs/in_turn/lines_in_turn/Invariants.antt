use Rattle.std.proofs.Common.{◌≡◌, None, take}
use Rattle.flt_door.specs.Lines.{Shows}
use Rattle.flt_explain_forms.specs.Lines.{AreLines}
use Rattle.flt_commands_explain.proofs.in_turn.lines_in_turn.Given as goal

abbrev pub invariant-loop-source : goal.invariant-loop-source
invariant-loop-source g l = record {
  told : AreLines l.style l.options (take l.source-index l.sources) None l.told.output.items l.told.status;
  sent : Shows (g.O.Sink.taken l.fn.out) (g.O.Sink.taken l.out) l.told.output.items;
  fine : g.O.Sink.failures l.out ≡ g.O.Sink.failures l.fn.out;
}
