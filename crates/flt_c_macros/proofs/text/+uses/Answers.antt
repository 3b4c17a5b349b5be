use Rattle.std.proofs.Common.{◌≡◌, ◌+◌, ◌-◌, ap, ◌∙◌, sym, subst, take}
use Rattle.std.specs.Prelude.{OnOk}
use Rattle.flt_c_macros.specs.Machines.{searched}
use Rattle.flt_c_macros.specs.Uses.{again, stepped, turns}
use Rattle.flt_c_macros.proofs.Uses.{call_done, called_is, turns_step}
use Rattle.flt_c_macros.proofs.text.+uses.Goals as goal

pub call-returns : goal.call-returns
call-returns t c =
    subst (λ m. OnOk c.call_by.result (c.call_by.new.machine ≡ m))
    (called_is c.args.depth (again c.args.kept.now c.args.macros.now c.args.depth) c.args.source.now c.args.token c.args.names.now
    c.args.rest c.args.body.now c.args.machine.now c.in_ok-search.search c.if-machine.false
    (c.in_ok-search.ensures ∙ ap (λ n. searched c.args.source.now n c.args.machine.now) c.commas_of.ensures))
    c.call_by.ensures

pub call_given-returns : goal.call_given-returns
call_given-returns t c =
    subst (λ m. OnOk c.put_in.result (c.put_in.new.machine ≡ m))
    (call_done c.args.kept.now c.args.macros.now c.args.depth c.args.token c.args.names.now c.args.rest c.args.body.now c.args.tokens.now
    c.args.search.now c.args.machine.now c.in_ok-prepared.prepared c.first-work.result.now c.as_slice-arguments.result.now
    (sym c.has_sign.ensures ∙ c.if-has_sign.false) c.requires.deep
    (c.first-work.ensures ∙ ap (take c.args.search.now.names) c.names.ensures) c.as_slice-arguments.ensures
    c.in_ok-prepared.ensures)
    c.put_in.ensures

pub read-loop-turn-preserved : goal.read-loop-turn-preserved
read-loop-turn-preserved t c =
    let step =
    stepped c.args.kept.now c.args.macros.now c.args.depth (again c.args.kept.now c.args.macros.now c.args.depth) c.args.source.now in
    c.loop-turn.invariant
    ∙ (turns_step step c.loop-turn._turn c.size-turn-end.result c.loop-turn.machine c.in-Some.item c.pop.new.self c.loop-turn-test.true
    c.in-Some.ensures
    ∙ ap (turns step (c.size-turn-end.result - (c.loop-turn._turn + 1))) (sym c.in_ok-step-in-Some.ensures))
