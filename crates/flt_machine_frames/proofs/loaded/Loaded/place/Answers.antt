use Rattle.std.proofs.Common.{sym, ap, ◌∙◌}
use Rattle.flt_tree.specs.declared.filter.Filter.{Filter}
use Rattle.flt_model.specs.Program.{place_at}
use Rattle.flt_machine_frames.proofs.Filters.{loaded_at, none_at, places_agree}
use Rattle.flt_machine_frames.proofs.loaded.Loaded.place.Goals as goal

pub returns-in-Some : goal.returns-in-Some
returns-in-Some c = λ p made.
    c.place.ensures ∙ places_agree _ _ _ c.args.callback
    (loaded_at p c.args.self.now.graphs c.args.filter c.in-Some.graph.now made.graphs (sym c.in-Some.ensures.value)).lowered.callbacks

pub returns-in-None : goal.returns-in-None
returns-in-None c = λ p made.
    sym (ap (λ (f : Filter). place_at f.callbacks c.args.callback)
    (none_at p c.args.self.now.graphs c.args.filter made.graphs (sym c.in-None.ensures.value)))
