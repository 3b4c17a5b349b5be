use Rattle.std.proofs.Common.{◌+◌, sym, subst, ◌∙◌}
use Rattle.std.specs.Prelude.{List}
use Rattle.flt_cert.specs.Format.{Point}
use Rattle.flt_check.specs.Ready.{IsReady}
use Rattle.flt_check.proofs.Thin.Looked.{own_fault_is, own_ready, if_none}
use Rattle.flt_check.proofs.thin_points.ready_fault.Goals as goal

pub returns-clause-fault : goal.returns-clause-fault
returns-clause-fault c =
    c.own_fault.ensures.fault
    ∙ own_fault_is c.joins_are_least.ensures.reflexive c.args.graph.now c.args.callback c.args.slots.now c.requires.given
    c.requires.few c.args.point c.args.states.now c.requires.ready c.requires.within

pub returns-clause-ready : goal.returns-clause-ready
returns-clause-ready c =
    if_none c.own_fault.result (IsReady c.args.graph.now c.args.callback c.args.slots.now (c.args.point + 1) c.own_fault.new.states)
    (λ none. subst (λ (states : List Point). IsReady c.args.graph.now c.args.callback c.args.slots.now (c.args.point + 1) states)
    (sym c.own_fault.ensures.states)
    (own_ready c.joins_are_least.ensures.reflexive c.args.graph.now c.args.callback c.args.slots.now c.requires.given
    c.requires.few c.args.point c.args.states.now c.requires.ready c.requires.within (sym c.own_fault.ensures.fault ∙ none)))
