use Rattle.std.proofs.Common.{◌≡◌, ℕ, ◌≤◌, Some, None, sym, subst, arith}
use Rattle.flt_graph.specs.Graph.{instruction_at}
use Rattle.flt_rules.specs.Limits.{max_cost}
use Rattle.flt_machine_frames.proofs.Stepping.{Laws}
use Rattle.flt_machine_frames.proofs.Ways.{goes_further, ends, runs_out, made, unmade}
use Rattle.flt_machine_frames.proofs.advancing.go_locally.Goals as goal
use Rattle.flt_machine_frames.specs.Leads.{IsAdvanceOn}
use Rattle.flt_machine_frames.specs.Steps.{stepped}
use Rattle.flt_machine_frames.specs.declared.standing.Standing.{Standing}

pub loop-steps-preserved : goal.loop-steps-preserved
loop-steps-preserved c =
    let laws : Laws = record {
      first = c.lists_have_points.ensures.first;
      each = c.callbacks_have_graphs.ensures.each;
      next = c.lists_have_turns.ensures.next;
      left = c.lists_have_turns.ensures.left;
      cost = c.lists_have_turns.ensures.cost;
      nested = c.lists_have_turns.ensures.nested;
    } in
    let after = c.loop-steps.after in
    let is : stepped c.args.frame.now.draining (instruction_at c.args.graph.now after.callback after.point) after
    ≡ Some c.go_further.new.after =
    made _ after c.go_further.new.after (sym c.if-not-go_further.ensures.local) c.if-not-go_further.ensures.after in
    λ f loaded. goes_further laws f c.args.graph.now loaded c.args.frame.now c.loop-steps.steps after (c.loop-steps.invariant f loaded)
    c.go_further.new.after is

pub returns-then-not-go_further-clause-advance : goal.returns-then-not-go_further-clause-advance
returns-then-not-go_further-clause-advance c =
    let laws : Laws = record {
      first = c.lists_have_points.ensures.first;
      each = c.callbacks_have_graphs.ensures.each;
      next = c.lists_have_turns.ensures.next;
      left = c.lists_have_turns.ensures.left;
      cost = c.lists_have_turns.ensures.cost;
      nested = c.lists_have_turns.ensures.nested;
    } in
    let after = c.loop-steps.after in
    let is : (stepped c.args.frame.now.draining (instruction_at c.args.graph.now after.callback after.point) after ≡ None)
    × (c.go_further.new.after ≡ after) =
    unmade _ after c.go_further.new.after (sym c.if-not-go_further.ensures.local) c.if-not-go_further.ensures.after in
    λ f loaded. subst (λ (s : Standing).
    IsAdvanceOn f.callbacks (record { frame = c.args.frame.now; after = s; steps = c.loop-steps.steps })) (sym is.1)
    (ends laws f c.args.graph.now loaded c.args.frame.now c.loop-steps.steps after (c.loop-steps.invariant f loaded) is.0)

pub returns-clause-advance : goal.returns-clause-advance
returns-clause-advance c =
    let laws : Laws = record {
      first = c.lists_have_points.ensures.first;
      each = c.callbacks_have_graphs.ensures.each;
      next = c.lists_have_turns.ensures.next;
      left = c.lists_have_turns.ensures.left;
      cost = c.lists_have_turns.ensures.cost;
      nested = c.lists_have_turns.ensures.nested;
    } in
    let most : max_cost ≤ c.loop-steps.steps = omega arith in
    let all : c.loop-steps.steps ≡ max_cost = omega (arith, c.loop-steps.auto.steps-end) in
    λ f loaded. subst (λ (n : ℕ).
    IsAdvanceOn f.callbacks (record { frame = c.args.frame.now; after = c.loop-steps.after; steps = n })) all
    (runs_out laws f c.args.graph.now loaded c.args.frame.now c.loop-steps.steps c.loop-steps.after (c.loop-steps.invariant f loaded) most)
