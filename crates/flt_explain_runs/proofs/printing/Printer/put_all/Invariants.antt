use Rattle.std.proofs.Common.{◌≡◌, true, false, take}
use Rattle.flt_door.specs.Lines.{Shows}
use Rattle.flt_explain_runs.specs.Printing.{ArePrinted, HoldsBack, look_of}
use Rattle.flt_explain_runs.proofs.printing.Printer.put_all.Given as goal

abbrev pub invariant-loop-studied : goal.invariant-loop-studied
invariant-loop-studied g l = record {
  printed : ArePrinted (look_of l.self) l.self.stage.trees.now l.self.files.now (take l.studied-index l.before) l.printed;
  holds : HoldsBack l.is_held l.printed;
  held : l.is_held ≡ true → l.out ≡ l.fn.out;
  out : l.is_held ≡ false → Shows (g.O.Sink.taken l.fn.out) (g.O.Sink.taken l.out) l.printed.bytes.items;
  fine : g.O.Sink.failures l.out ≡ g.O.Sink.failures l.fn.out;
}
