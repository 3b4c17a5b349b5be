use Rattle.std.proofs.Common.{[], ap, refl, sym, subst, ◌∙◌}
use Rattle.flt_model.specs.World.{presence_at}
use Rattle.flt_sound.specs.Soundness.{AreAccepted}
use Rattle.flt_stack.proofs.loaded.Loaded.boards_leak_nothing.Goals as goal

pub returns : goal.returns
returns c own filter gone =
    c.unloading_leaks_nothing.ensures c.args.self.now own.transitions [] own.moment own.moment filter
    (subst AreAccepted c.self.view_is c.self.invariant.accepted) own.runs
    (ap (λ s. presence_at s filter) (sym own.at.store) ∙ gone) refl
