-- Stores that differ in one queue or in their items: the invariants still hold where the new queue's entries, or the new items, fit.
-- p is the program, s the store, f a filter.
use Rattle.std.proofs.Common.{ℕ, List, Option, None, refl}
use Rattle.std.proofs.Math.ListN.{get_or}
use Rattle.flt_tree.specs.declared.filter.Filter.{Filter}
use Rattle.flt_model.specs.declared.parts.Entry.{Entry}
use Rattle.flt_model.specs.declared.parts.Item.{Item}
use Rattle.flt_model.specs.World.{Store, with_queue}
use Rattle.flt_sound.proofs.sums.Eaches.{Each, each_set}
use Rattle.flt_sound.proofs.points.Kept.{StoreChange}
use Rattle.flt_sound.proofs.points.Stored.{FitsQueue, IsItem, Stored}
use Rattle.flt_sound.proofs.sums.Belonging.{BelongsItem, Mine}

-- the store keeps its invariants with another queue of a filter
pub queue_stored : (p : List Filter) (s : Store) (f : ℕ) (queue : List Entry) → Stored p s →
    Each (FitsQueue s.visits s.arrivals p f) queue →
    StoreChange p s (with_queue s f queue)
queue_stored p s f queue k fits = record {
  visits = refl;
  arrivals = refl;
  stored = record {
    entries = each_set (FitsQueue s.visits s.arrivals p) s.queues f queue k.entries fits;
    items = k.items;
    frames = k.frames;
    modes = k.modes;
    paths = k.paths;
    before = k.before;
  };
}

-- the store keeps its invariants with other items
pub items_stored : (p : List Filter) (s : Store) (items : List (Option Item)) → Stored p s →
    ((i : ℕ) → IsItem s.visits s.arrivals p (get_or items i None)) →
    StoreChange p s (record s { items = items })
items_stored p s items k fits = record {
  visits = refl;
  arrivals = refl;
  stored = record {
    entries = k.entries;
    items = fits;
    frames = k.frames;
    modes = k.modes;
    paths = k.paths;
    before = k.before;
  };
}

-- contexts still belong to their filters where those of the new items do
pub items_mine : (s : Store) (items : List (Option Item)) → Mine s → ((i : ℕ) → BelongsItem s.contexts (get_or items i None)) →
    Mine (record s { items = items })
items_mine s items k own = record { entries = k.entries; frames = k.frames; items = own; links = k.links }
