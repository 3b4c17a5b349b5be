use Rattle.std.proofs.Common.{List, length, ap, ◌∙◌}
use Rattle.std.specs.List.{position_or_len}
use Rattle.std.specs.Option.{unwrap_or}
use Rattle.flt_graph.specs.declared.graph.CallbackGraph.{CallbackGraph}
use Rattle.flt_machine_frames.proofs.Numbers.{first_or_end}
use Rattle.flt_machine_frames.proofs.loaded.Loaded.callback_for.Goals as goal
use Rattle.flt_machine_frames.specs.Loading.{is_event}

pub returns : goal.returns
returns c =
    let slice = c.callbacks-callbacks.result.now in
    c.unwrap_or.ensures
    ∙ (ap (λ o. unwrap_or o (length slice)) c.first_for.ensures
    ∙ (first_or_end (λ (g : CallbackGraph). is_event c.args.event g.place) slice
    ∙ ap (λ (l : List CallbackGraph). position_or_len (λ (g : CallbackGraph). is_event c.args.event g.place) l)
    c.callbacks-callbacks.ensures))
