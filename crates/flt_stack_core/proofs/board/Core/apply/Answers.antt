use Rattle.std.proofs.Common.{sym, ◌∙◌, arith}
use Rattle.flt_stack_core.proofs.Counted.{counted_others}
use Rattle.flt_stack_core.proofs.Filled.{others_full}
use Rattle.flt_stack_core.proofs.board.Core.apply.Goals as goal

pub invariant_of-self-2 : goal.invariant_of-self-2
invariant_of-self-2 g c =
    let before = c.self.inside.board in
    let later = c.apply.new.self.entries in
    let counted = counted_others before.entries later c.args.step c.requires.others c.in_ok-events.ensures.written in (
      c.apply.ensures.own g.N.StackName.trees c.requires.loaded c.self.invariant.0,
      c.self.invariant.1 ∙ sym counted.0,
      omega (arith, c.add.ensures.total, c.self.invariant.2, counted.1),
      λ some. others_full c.args.loaded.now before c.args.step c.apply.result c.in_ok-events.events c.in_ok-events.was
          c.apply.ensures.disabled c.apply.ensures.full later c.requires.others c.in_ok-events.ensures.written
          (c.self.invariant.3 some),
    )
