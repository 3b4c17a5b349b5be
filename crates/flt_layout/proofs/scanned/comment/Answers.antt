use Rattle.flt_layout.proofs.Trimmed.{shorter_by, cut_by, trim_by, ended_by, word_by}
use Rattle.flt_layout.proofs.scanned.comment.Goals as goal
use Rattle.flt_layout.proofs.scanned.comment.Goals.{then-loop-end-test+else-is_blank, else-loop-end-test}

pub overflow_sub-end : goal.overflow_sub-end
overflow_sub-end c = shorter_by c.args.z.now c.after_comment.result.now c.after_comment.ensures

pub loop-end-init : goal.loop-end-init
loop-end-init c = cut_by c.args.z.now c.after_comment.result.now c.after_comment.ensures

pub loop-end-preserved : goal.loop-end-preserved
loop-end-preserved c =
    trim_by c.args.z.now c.loop-end.end c.is_blank.result c.loop-end.invariant c.loop-end-test.true c.is_blank.ensures c.if-is_blank.true

pub returns : goal.returns
returns c =
    elim c.loop-end-test.branch [
      | then-loop-end-test+else-is_blank w ↦
          word_by c.args.z.now c.loop-end.end w.is_blank.result c.loop-end.invariant w.loop-end-test.true w.is_blank.ensures
          w.if-is_blank.false
      | else-loop-end-test w ↦ ended_by c.args.z.now c.loop-end.end c.loop-end.invariant w.loop-end-test.false
    ]
