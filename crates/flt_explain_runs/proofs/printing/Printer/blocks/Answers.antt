use Rattle.std.proofs.Common.{◌<◌, arith, length}
use Rattle.flt_explain_runs.specs.Printing.{look_of}
use Rattle.flt_explain_runs.specs.Whole.{no_block}
use Rattle.flt_explain_outcomes.proofs.Notes.{setting_at}
use Rattle.flt_explain_runs.proofs.Reports.{all_blocks, next_block}
use Rattle.flt_explain_runs.proofs.printing.Printer.blocks.Goals as goal

pub loop-place-init : goal.loop-place-init
loop-place-init c = rw c.new-blocks.ensures.items no_block

pub block-requires : goal.block-requires
block-requires c =
    let h : c.loop-place.place < length c.args.traces.now.groups = rw c.as_slice-group-items.ensures at c.loop-place-test.true in
    let many = c.requires.many in
    record {
      setting = setting_at _ c.args.noted.now.setting c.args.noted.now.each c.loop-place.place c.index-notes-place.result
          c.requires.setting (omega (arith, h, many)) (rw c.as_slice-notes.ensures at c.index-notes-place.is);
    }

pub loop-place-preserved : goal.loop-place-preserved
loop-place-preserved c =
    let h : c.loop-place.place < length c.args.traces.now.groups = rw c.as_slice-group-items.ensures at c.loop-place-test.true in
    let many = c.requires.many in
    next_block (look_of c.args.self.now) _ _ _ _ _ _ c.args.traces.now c.args.traces.now.groups c.args.noted.now.each c.loop-place.place
    c.group-item.result c.index-notes-place.result c.loop-place.blocks.items c.push.new.self.items c.in_ok-block.field-0 h
    (rw c.as_slice-group-items.ensures at c.group-item.is) (omega (arith, h, many))
    (rw c.as_slice-notes.ensures at c.index-notes-place.is) c.loop-place.invariant c.in_ok-block.ensures c.in_ok-push.ensures.items

pub returns : goal.returns
returns c =
    all_blocks (look_of c.args.self.now) _ _ _ _ _ _ c.args.traces.now c.args.traces.now.groups c.args.noted.now.each c.loop-place.place
    c.loop-place.blocks.items (rw c.as_slice-group-items.ensures at c.loop-place-test.false) c.requires.many c.loop-place.invariant
