-- Whose a context is. Each context is of the filter that allocated it, and what stands in queues, frames, items and links of a filter
-- is the filter's own: so no activation comes to use another filter's context (the second half of V1).
-- Here cs, ds are lists of all contexts, f is a filter, x a context, s a store.
use Rattle.std.proofs.Common.{◌≡◌, ℕ, ◌<◌, List, [], ◌∷◌, ◌++◌, length, Option, Some, None, ap, arith}
use Rattle.std.proofs.Math.ListN.{get_or, get_or-append}
use Rattle.std.proofs.Math.Seq.{get_or-append_seam}
use Rattle.std.proofs.lemmas.List.{length-append}
use Rattle.flt_model.specs.World as world
use Rattle.flt_model.specs.declared.parts.Entry.{Entry}
use Rattle.flt_model.specs.declared.parts.Item.{Item}
use Rattle.flt_model.specs.declared.parts.Link.{Link}
use Rattle.flt_model.specs.World.{Store, Frame, no_context, context_at, queue_at, route_at, item_at}
use Rattle.flt_sound.proofs.sums.Eaches.{Each, each_map}

-- the context is there, and is the filter's
pub record IsOf (cs : List world.Context) (f x : ℕ) : Type 0 where
  pub there : x < length cs
  pub owner : (get_or cs x no_context).owner ≡ f

-- a context that may be there is the filter's
abbrev pub Belongs : List world.Context → ℕ → Option ℕ → Type 0
Belongs cs f None = Unit {0}
Belongs cs f (Some x) = IsOf cs f x

-- the context that a work item may have is its filter's
abbrev pub BelongsItem : List world.Context → Option Item → Type 0
BelongsItem cs None = Unit {0}
BelongsItem cs (Some i) = Belongs cs i.filter i.context

-- what stands in queues, frames, items and links is the filter's own
pub record Mine (s : Store) : Type 0 where
  -- the contexts of a queue's entries
  pub entries : (f : ℕ) → Each (λ (e : Entry). Belongs s.contexts f e.context) (queue_at s f)
  -- those of an operation's frames
  pub frames : (o : ℕ) → Each (λ (r : Frame). Belongs s.contexts r.filter r.context) (route_at s o).frames
  -- those of work items
  pub items : (i : ℕ) → BelongsItem s.contexts (item_at s i)
  -- those that are linked
  pub links : (x : ℕ) (l : Link) → (context_at s x).link ≡ Some l → IsOf s.contexts l.filter x

-- ---- contexts change, and stay whose they are

-- whoever's a context was it still is
abbrev pub Older : List world.Context → List world.Context → Type 0
Older cs ds = (f x : ℕ) → IsOf cs f x → IsOf ds f x

belongs_on : (cs ds : List world.Context) → Older cs ds → (f : ℕ) (x : Option ℕ) → Belongs cs f x → Belongs ds f x
belongs_on cs ds h f None b = tt
belongs_on cs ds h f (Some x) b = h f x b

item_on : (cs ds : List world.Context) → Older cs ds → (i : Option Item) → BelongsItem cs i → BelongsItem ds i
item_on cs ds h None b = tt
item_on cs ds h (Some i) b = belongs_on cs ds h i.filter i.context b

-- contexts that are whose they were, in a store that has the same queues, frames and items, and links of their own
pub mine_on : (s : Store) (cs : List world.Context) → Older s.contexts cs → Mine s →
    ((x : ℕ) (l : Link) → (get_or cs x no_context).link ≡ Some l → IsOf cs l.filter x) → Mine (record s { contexts = cs })
mine_on s cs older k links = record {
  entries = λ f. each_map (λ (e : Entry). Belongs s.contexts f e.context) (λ (e : Entry). Belongs cs f e.context) (queue_at s f)
      (λ e b. belongs_on s.contexts cs older f e.context b) (k.entries f);
  frames = λ o. each_map (λ (r : Frame). Belongs s.contexts r.filter r.context) (λ (r : Frame). Belongs cs r.filter r.context)
      (route_at s o).frames
      (λ r b. belongs_on s.contexts cs older r.filter r.context b) (k.frames o);
  items = λ i. item_on s.contexts cs older (item_at s i) (k.items i);
  links = links;
}

-- ---- a new context

-- a context as it is allocated: with one reference, that of the variable that receives it
abbrev pub new_context : ℕ → world.Context
new_context f = record { owner = f; references = 1; value = 0; link = None }

-- the new context is there, and the filter's
pub newest : (cs : List world.Context) (f : ℕ) → IsOf (cs ++ new_context f ∷ []) f (length cs)
newest cs f = record {
  there = omega (arith, length-append cs (new_context f ∷ []));
  owner = ap (λ (c : world.Context). c.owner) (get_or-append_seam cs (new_context f) [] no_context);
}

-- where a context is added, the others are whose they were
pub older_more : (cs : List world.Context) (c : world.Context) → Older cs (cs ++ c ∷ [])
older_more cs c f x b = record {
  there = omega (arith, length-append cs (c ∷ []), b.there);
  owner = rw (get_or-append cs (c ∷ []) no_context x b.there) b.owner;
}
