-- The world before the first move, by how many filters there are.
use Rattle.std.specs.Prelude.{ℕ, [], replicate}
use Rattle.flt_model.specs.declared.parts.Presence.TheVariants.{Attached}
use Rattle.flt_model.specs.World.{World}

abbrev pub opened : ℕ → World
opened n = record {
  actors = [];
  activations = [];
  store = record {
    presences = replicate n Attached;
    queues = replicate n [];
    holders = replicate n (replicate 8 []);
    arrivals = [];
    routes = [];
    visits = [];
    settled = [];
    contexts = [];
    items = [];
  };
}
