-- The post callback of a frame that has left its operation's route.
use Rattle.std.specs.Prelude.{ℕ, Bool, List, Some, length}
use Rattle.flt_rules.specs.declared.place.Place.TheVariants as place
use Rattle.flt_rules.specs.declared.place.Stage.TheVariants as stage
use Rattle.flt_tree.specs.declared.filter.Filter.{Filter}
use Rattle.flt_model.specs.Effects.{Step}
use Rattle.flt_model.specs.Moves.{starts, with_visit}
use Rattle.flt_model.specs.Program.{callbacks_at, is_post_of, body_for}
use Rattle.flt_model.specs.World.{World, Frame, Visit, arrival_at}

-- `post_of` in the world with the route that it is given
abbrev pub starts_post : List Filter → World → ℕ → Frame → Bool → Step
starts_post p w o frame draining =
    let kind = (arrival_at w.store o).kind in
    let visit : Visit = record { operation = o; filter = frame.filter; stage = stage.Post; draining = draining } in
    starts w (with_visit w.store visit) (record { filter = frame.filter; place = place.Post kind; draining = draining })
    (body_for (is_post_of kind) (callbacks_at p frame.filter)) (Some (length w.store.visits)) frame.context
