use Rattle.std.proofs.Common.{[], List, ap, arith, length, sym, ◌∙◌}
use Rattle.flt_tree.specs.declared.filter.Filter.{Filter}
use Rattle.flt_explain_timeline.specs.Course.{after_start}
use Rattle.flt_explain_timeline.specs.Refusals.{of_move}
use Rattle.flt_explain_timeline.specs.declared.running.Scene.{Scene}
use Rattle.flt_explain_timeline.proofs.Moves.{moved, not_moved, starts, starts_none}
use Rattle.flt_explain_timeline.proofs.running.Scene.tell_move.Goals as goal

pub returns-then-not-branch : goal.returns-then-not-branch
returns-then-not-branch c =
    not_moved c.args.stage.now.stack.now c.args.self.now c.args.step _ _ _ (c.in_ok-make_move.ensures []) c.if-not-branch.true
    (c.of_move-why.ensures ∙ ap (λ (s : Scene). of_move c.args.stage.now.stack.now s.world.store c.args.step) c.self.view_is)

pub returns-then-len-before : goal.returns-then-len-before
returns-then-len-before c =
    moved c.args.stage.now.stack.now c.args.self.now c.args.step _ _ (c.in_ok-make_move.ensures []) c.if-not-branch.false
    ∙ starts c.args.stage.now.stack.now c.args.self.now c.args.step c.make_move.new.world c.len-before.result c.routine_of-routine.result
    (omega (arith, c.len-before.ensures, ap (λ (s : Scene). length s.world.activations) c.self.view_is)) c.routine_of-routine.ensures
    (omega (arith, c.if-len-before.true, c.len.ensures, ap (λ (s : Scene). length s.world.activations) c.self-2.view_is))
    ∙ ap (λ (p : List Filter). after_start p c.make_move.new.world c.args.self.now.columns c.args.self.now.runs c.len-before.result
    c.routine_of-routine.result) (sym c.requires)
    ∙ c.in_ok-tell_start.ensures

pub returns : goal.returns
returns c =
    moved c.args.stage.now.stack.now c.args.self.now c.args.step _ _ (c.in_ok-make_move.ensures []) c.if-not-branch.false
    ∙ starts_none c.args.stage.now.stack.now c.args.self.now c.args.step c.make_move.new.world c.len-before.result
    (omega (arith, c.len-before.ensures, ap (λ (s : Scene). length s.world.activations) c.self.view_is))
    (omega (arith, c.if-len-before.false, c.len.ensures, ap (λ (s : Scene). length s.world.activations) c.self-2.view_is))
    ∙ c.tell_system.ensures
