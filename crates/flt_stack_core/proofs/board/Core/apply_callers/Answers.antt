use Rattle.std.proofs.Common.{sym, ◌∙◌, arith}
use Rattle.flt_stack_core.proofs.Counted.{counted_callers}
use Rattle.flt_stack_core.proofs.Filled.{callers_full}
use Rattle.flt_stack_core.proofs.board.Core.apply_callers.Goals as goal

pub invariant_of-self-2 : goal.invariant_of-self-2
invariant_of-self-2 g c =
    let before = c.self.inside.board in
    let later = c.apply.new.self.entries in
    let counted = counted_callers before.entries later c.args.step c.requires.callers c.in_ok-apply.ensures.written in (
      c.apply.ensures.own g.N.StackName.trees c.requires.loaded c.self.invariant.0,
      omega (arith, c.add.ensures.total, c.self.invariant.1, counted.0),
      c.self.invariant.2 ∙ sym counted.1,
      λ some. callers_full c.args.loaded.now before c.args.step c.apply.result c.in_ok-apply.field-0 c.in_ok-apply.was
          c.apply.ensures.disabled c.apply.ensures.full g.N.StackName.trees later c.self.invariant.0 c.arrivals_are_operations.ensures
          c.in_ok-apply.ensures.written (c.self.invariant.3 some),
    )
