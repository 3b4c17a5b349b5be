-- Which move comes next: of an operation, and of a filter that is being detached. This project's own order.
use Rattle.std.specs.Prelude.{◌≡◌, ◌≤◌, ℕ, Bool, true, false, List, [], ◌∷◌, position, find, is_some, Option, Some, None, if◌then◌else◌}
use Rattle.flt_tree.specs.declared.filter.Filter.{Filter}
use Rattle.flt_model.specs.declared.moves.Key.{Key}
use Rattle.flt_model.specs.declared.moves.Move.{Move}
use Rattle.flt_model.specs.declared.moves.Move.TheVariants.{Pre, Skip, Lower, Post, Canceled, Drain, Unlink, Detached}
use Rattle.flt_model.specs.Moves.{make, has_frame}
use Rattle.flt_model.specs.Program.{filter_of}
use Rattle.flt_model.specs.declared.parts.Entry.{Entry}
use Rattle.flt_model.specs.World.{World, Store, is_detaching, linked_at, presence_at, queue_at, visit_at}
use Rattle.flt_machine_store.specs.Stores.{order_of}

-- the move is enabled
abbrev pub is_enabled : List Filter → World → Move → Bool
is_enabled p w move = is_some (make p w move)

-- the moves of an operation's own, of which one at most is enabled
abbrev pub own_moves : ℕ → List Move
own_moves serial = Pre serial ∷ Skip serial ∷ Lower serial ∷ Post serial ∷ []

-- the enabled one of them
abbrev pub next_of : List Filter → World → ℕ → Option Move
next_of p w serial = find (is_enabled p w) (own_moves serial)

-- ---- teardown: drains by rising serial numbers, then the queue from the front, then links, then the end

-- a key at which a context of the filter is linked, and none comes before it
pub record IsFirstKey (s : Store) (f : ℕ) (key : Key) : Type 0 where
  pub linked : is_some (linked_at s (record { filter = f; key = key })) ≡ true
  pub least : (other : Key) → is_some (linked_at s (record { filter = f; key = other })) ≡ true → order_of key ≤ order_of other

-- where no frame and no entry is left
abbrev pub ComesAfterEntries : List Filter → World → ℕ → ℕ → Option Move → Type 0
ComesAfterEntries p w f altitude (Some (Unlink at key)) = (at ≡ altitude) × IsFirstKey w.store f key
ComesAfterEntries p w f altitude move =
    ((key : Key) → linked_at w.store (record { filter = f; key = key }) ≡ None)
    × (move ≡ (if is_enabled p w (Detached altitude) then Some (Detached altitude) else None))

-- where no frame is left
abbrev pub ComesAfterFrames : List Filter → World → ℕ → ℕ → List Entry → Option Move → Type 0
ComesAfterFrames p w f altitude (e ∷ entries) move = move ≡ Some (Canceled altitude (visit_at w.store e.visit).operation)
ComesAfterFrames p w f altitude [] move = ComesAfterEntries p w f altitude move

-- the move of a filter's teardown
abbrev pub ComesNext : List Filter → World → ℕ → ℕ → Option ℕ → Option Move → Type 0
ComesNext p w f altitude (Some serial) move = move ≡ Some (Drain altitude serial)
ComesNext p w f altitude None move = ComesAfterFrames p w f altitude (queue_at w.store f) move

-- only of a filter that is being detached
abbrev pub ComesNextIn : List Filter → World → ℕ → ℕ → Bool → Option Move → Type 0
ComesNextIn p w f altitude true move = ComesNext p w f altitude (position (has_frame f) w.store.routes) move
ComesNextIn p w f altitude false move = move ≡ None

-- the filter is found by its altitude
abbrev pub ComesNextOf : List Filter → World → ℕ → Option Move → Type 0
ComesNextOf p w altitude move =
    let f = filter_of p altitude in ComesNextIn p w f altitude (is_detaching (presence_at w.store f)) move
