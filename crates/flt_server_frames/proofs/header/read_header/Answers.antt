use Rattle.std.proofs.Common.{rules, arith, refl}
use Rattle.flt_server_frames.proofs.Reading.{none_read, reads_more, header_read, header_cut, header_too_long, stream_ended}
use Rattle.flt_server_frames.proofs.header.read_header.Goals as goal
use Rattle.flt_server_frames.proofs.header.read_header.Goals.{then-at-eq0, else-at-eq0}

pub loop-at-init : goal.loop-at-init
loop-at-init g c = record {
  goes = none_read _ _ c.new.ensures.items;
  fine = refl;
}

pub loop-at-preserved : goal.loop-at-preserved
loop-at-preserved g c = record {
  goes = reads_more _ _ _ c.loop-at.at c.in-Some.byte c.loop-at.part.line.items _ c.loop-at.part.length _ (omega arith)
      c.loop-at.invariant.goes (search rules) (search rules);
  fine = search rules;
}

pub returns-in-Some-2-clause-head : goal.returns-in-Some-2-clause-head
returns-in-Some-2-clause-head g c =
    header_read _ _ _ c.loop-at.at c.in-Some.byte c.loop-at.part.line.items c.loop-at.part.length c.in-Some-2.head (omega arith)
    c.loop-at.invariant.goes (search rules) (search rules)

pub returns-in_default-clause-head : goal.returns-in_default-clause-head
returns-in_default-clause-head g c = elim c.if-at-eq0.branch [
  | then-at-eq0 w ↦ rw w.result-is (stream_ended _ _ _ c.loop-at.part.line.items c.loop-at.part.length
      (rw w.if-at-eq0.true at c.loop-at.invariant.goes) (search rules) (search rules))
  | else-at-eq0 w ↦ rw w.result-is (header_cut _ _ _ c.loop-at.at c.loop-at.part.line.items c.loop-at.part.length (omega arith)
      w.if-at-eq0.false c.loop-at.invariant.goes (search rules) (search rules))
]

pub returns-clause-head : goal.returns-clause-head
returns-clause-head g c = header_too_long _ _ c.loop-at.at c.loop-at.part.line.items c.loop-at.part.length (omega arith)
    c.loop-at.invariant.goes
