use Rattle.std.proofs.Common.{◌≡◌, ◌+◌, ◌∙◌, length, drop, sym, ap, arith}
use Rattle.std.proofs.lemmas.List.{length-append}
use Rattle.std.proofs.lemmas.Result.{on_ok_weaker}
use Rattle.flt_tree.specs.Measures.{points_of}
use Rattle.flt_graph.specs.Points.{entry}
use Rattle.flt_graph.specs.declared.graph.Point.{Point}
use Rattle.flt_graph.proofs.Added.{added_if, added_repeat, added_more, added_all, added_plain, entry_last}
use Rattle.flt_graph.proofs.Added.{entry_next, is_plain, points_more, points_plain, points_repeat}
use Rattle.flt_graph.proofs.lowering.+lower.Goals as goal
use Rattle.flt_graph.proofs.lowering.+lower.Goals.{add_block-then-left-eq0, add_block-else-left-eq0}

pub add_statement-returns-in_ok-add_block-in-If-clause-points :
    goal.add_statement-returns-in_ok-add_block-in-If-clause-points
add_statement-returns-in_ok-add_block-in-If-clause-points t c =
    on_ok_weaker c.add_block-in-If.result
    (λ h. added_if c.args.callbacks.now c.args.statement.now c.in-If.field-0 c.in-If.field-1 c.in-If.granted c.in-If.refused
    c.args.found.now.items c.push_statement.new.found.items c.add_block.new.found.items c.add_block-in-If.new.found.items c.args.after
    c.in-If.is c.in_ok-push_statement.ensures
    (rw c.as_slice.ensures at c.in_ok-add_block-in-If.ensures.points) (rw c.as_slice-in-If.ensures at h))
    c.add_block-in-If.ensures.points

pub add_statement-returns-in-Repeat-clause-points :
    goal.add_statement-returns-in-Repeat-clause-points
add_statement-returns-in-Repeat-clause-points t c =
    on_ok_weaker c.add_block-in-Repeat.result
    (λ h. added_repeat c.args.callbacks.now c.args.statement.now c.in-Repeat.field-0 c.in-Repeat.field-1 c.in-Repeat.body
    c.args.found.now.items c.push_statement.new.found.items c.add_block-in-Repeat.new.found.items c.len-at.result c.args.after
    (omega arith) c.in-Repeat.is c.in_ok-push_statement.ensures (rw c.as_slice-in-Repeat.ensures at h))
    c.add_block-in-Repeat.ensures.points

pub add_statement-returns-in-Repeat-clause-count :
    goal.add_statement-returns-in-Repeat-clause-count
add_statement-returns-in-Repeat-clause-count t c =
    on_ok_weaker c.add_block-in-Repeat.result
    (λ h. omega (
      arith,
      rw c.as_slice-in-Repeat.ensures at h,
      ap length c.in_ok-push_statement.ensures,
      length-append {A = Point},
      points_repeat c.args.statement.now c.in-Repeat.field-0 c.in-Repeat.field-1 c.in-Repeat.body c.in-Repeat.is,
    ))
    c.add_block-in-Repeat.ensures.count

pub add_statement-returns-in_default : goal.add_statement-returns-in_default
add_statement-returns-in_default t c =
    let plain = is_plain c.args.callbacks.now c.args.statement.now
    (length c.args.found.now.items) c.args.after c.in_default.not-If c.in_default.not-Repeat in
    record {
      count = omega (
        arith,
        ap length c.in_ok-push_statement.ensures,
        length-append {A = Point},
        points_plain c.args.callbacks.now c.args.statement.now (length c.args.found.now.items) c.args.after plain,
      );
      points = added_plain c.args.callbacks.now c.args.statement.now c.args.found.now.items
          c.push_statement.new.found.items c.args.after plain c.in_ok-push_statement.ensures;
    }

pub add_block-loop-statement-preserved : goal.add_block-loop-statement-preserved
add_block-loop-statement-preserved t c =
    let next : c.if-left-eq0.next ≡ entry (drop (c.loop-statement.statement-index + 1) c.args.block.now)
    (length c.loop-statement.found.items + points_of c.statement-item.result) c.args.after =
    elim c.if-left-eq0.branch [
      | add_block-then-left-eq0 w ↦ w.next-is
          ∙ sym (entry_last c.args.block.now c.loop-statement.statement-index
          (length c.loop-statement.found.items + points_of c.statement-item.result) c.args.after (omega arith))
      | add_block-else-left-eq0 w ↦ w.next-is
          ∙ (omega arith ∙ sym (entry_next c.args.block.now c.loop-statement.statement-index
          (length c.loop-statement.found.items + points_of c.statement-item.result) c.args.after (omega arith)))
    ] in
    record {
      added = omega (
        arith,
        c.in_ok-add_statement.ensures.count,
        points_more c.args.block.now c.loop-statement.statement-index c.statement-item.result (omega arith) c.statement-item.is,
      );
      left = omega arith;
      points =
          added_more c.args.callbacks.now c.args.block.now c.loop-statement.statement-index c.statement-item.result
          c.loop-statement.found.items c.add_statement.new.found.items c.if-left-eq0.next c.args.after
          (omega arith) c.statement-item.is next c.in_ok-add_statement.ensures.points
          ∙ c.loop-statement.invariant.points;
    }

pub add_block-returns-clause-points : goal.add_block-returns-clause-points
add_block-returns-clause-points t c =
    added_all c.args.callbacks.now c.args.block.now c.loop-statement.statement-index c.args.found.now.items c.loop-statement.found.items
    (length c.args.found.now.items) c.args.after (omega arith) c.loop-statement.invariant.points
