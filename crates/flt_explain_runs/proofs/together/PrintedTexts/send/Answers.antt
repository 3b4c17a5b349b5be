use Rattle.std.proofs.lemmas.List.{take_rest}
use Rattle.flt_explain_runs.proofs.together.PrintedTexts.send.Goals as goal

pub returns-clause-added : goal.returns-clause-added
returns-clause-added g c = record {
  lines = c.requires.lines;
  out = rw (c.deref.ensures.value, take_rest c.args.self.now.bytes.items c.args.self.now.sent) at c.in_ok-put_let_out.ensures.ok;
}
