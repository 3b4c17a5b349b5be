-- What activations share, by its parts.
use Rattle.std.specs.Prelude.{◌≡◌, ℕ, ◌+◌, ◌≤◌, Bool, true, not, ◌&&◌, List, [], length, replicate, get_or}
use Rattle.std.specs.List.{All, list_any}
use Rattle.flt_cbdq.specs.Queues as cbdq
use Rattle.flt_cbdq.specs.declared.entry.Entry.{Entry}
use Rattle.flt_ctx.specs.Contexts as ctx
use Rattle.flt_model.specs.Moves.{has_frame, is_empty, is_item_of, is_linked_by}
use Rattle.flt_model.specs.declared.parts.Holder.{Holder}
use Rattle.flt_model.specs.declared.parts.Presence.{Presence}
use Rattle.flt_model.specs.declared.parts.Presence.TheVariants.{Attached, Detached}
use Rattle.flt_model.specs.World.{World, Store, Actor, Activation, Context, is_attached, queue_at}
use Rattle.flt_model.specs.declared.moves.Key.{Key}
use Rattle.flt_model.specs.declared.moves.Key.TheVariants.{Stream, Instance}
use Rattle.flt_ops.specs.Operating.{Operating}

-- before the first move: so many filters, each attached, with an empty queue and eight locks that nobody holds
abbrev pub empty_store : ℕ → Store
empty_store n = record {
  presences = replicate n Attached;
  queues = replicate n [];
  holders = replicate n (replicate 8 []);
  arrivals = [];
  routes = [];
  visits = [];
  settled = [];
  contexts = [];
  items = [];
}

-- a world by its parts
abbrev pub world_of : Store → List Actor → List Activation → World
world_of store actors activations = record { actors = actors; activations = activations; store = store }

-- a filter is closed, and its queue disabled, where it isn't attached
abbrev pub AreClosed : List Bool → List Presence → Type 0
AreClosed closed presences = (f : ℕ) → get_or closed f true ≡ not (is_attached (get_or presences f Detached))

-- no queue has an entry of a greater visit
abbrev pub AreUpTo : ℕ → List (List Entry) → Type 0
AreUpTo greatest queues = (f : ℕ) → All (λ (e : Entry). e.visit ≤ greatest) (get_or queues f [])

-- what holds of the parts at all times: each has as many filters, closed are those that aren't attached, and the greatest visit that was
-- queued is known
pub record AreParts (presences : List Presence) (queues : cbdq.Queueing) (greatest : ℕ) (contexts : ctx.ContextTable)
    (operations : Operating) (holders : List (List (List Holder))) : Type 0 where
  pub filters : operations.filters ≡ length presences
  pub locked : length holders ≡ length presences
  pub closed : AreClosed contexts.closed presences
  pub disabled : AreClosed queues.disabled presences
  pub queued : AreUpTo greatest queues.queues

-- the filter has nothing left but activations
abbrev pub is_emptied : Store → ℕ → Bool
is_emptied s f =
    not (list_any (has_frame f) s.routes)
    && is_empty (queue_at s f)
    && not (list_any (is_item_of f) s.items)
    && not (list_any (λ (c : Context). is_linked_by f c.link) s.contexts)

-- the order in which a teardown unlinks: the instance, then streams by their files. This project's own rule
abbrev pub order_of : Key → ℕ
order_of Instance = 0
order_of (Stream file) = file + 1
