use Rattle.std.proofs.Common.{ap, sym, ◌∙◌}
use Rattle.std.specs.List.{list_any}
use Rattle.flt_model.specs.Moves.{is_linked_by}
use Rattle.flt_model.specs.World.{Context}
use Rattle.flt_replay_records.proofs.ContextLists.{any_linked}
use Rattle.flt_replay_records.proofs.context_list.ContextList.is_any_linked_by.Goals as goal

pub returns : goal.returns
returns c =
    let kept = c.self.inside in
    c.is_any_linked_by.ensures ∙ ap (list_any (is_linked_by c.args.filter)) c.as_slice.ensures.value
    ∙ sym (any_linked c.args.filter kept.list.items kept.values.items kept.links.items c.self.invariant.1)
    ∙ ap (list_any (λ (x : Context). is_linked_by c.args.filter x.link)) c.self.view_is
