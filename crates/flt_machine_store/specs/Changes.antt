-- What calls and moves change of what activations share, each in the machine's own words, and when it can be made.
use Rattle.std.specs.Prelude.{◌≡◌, ℕ, ◌-◌, ◌<◌, ◌^◌, Bool, true, false, ◌||◌, [], ◌∷◌, ◌++◌}
use Rattle.std.specs.Prelude.{drop, find, is_some, length, set, Option, Some, None}
use Rattle.flt_model.specs.Calls.{put_link}
use Rattle.flt_model.specs.Effects.{after_unlink}
use Rattle.flt_model.specs.Locks.{with_holder, without_holder}
use Rattle.flt_model.specs.Moves.{is_done, is_entry_of, is_frame_of, other_entries, with_arrival}
use Rattle.flt_model.specs.Reads.{put_value}
use Rattle.flt_model.specs.Settling.{settled_by}
use Rattle.flt_model.specs.declared.parts.Entry.{Entry}
use Rattle.flt_model.specs.declared.parts.Presence.TheVariants.{Detaching, Detached}
use Rattle.flt_model.specs.World.{Store, is_attached, presence_at, queue_at, with_presence}
use Rattle.flt_model.specs.World.{with_queue, add_reference, drop_reference, context_at, is_freed, linked_at, route_at}
use Rattle.flt_model.specs.declared.moves.Key.{Key}
use Rattle.flt_ops.specs.Operating as operating
use Rattle.flt_machine_store.specs.declared.change.Change.{Change}
use Rattle.flt_machine_store.specs.declared.change.Change.TheVariants as change
use Rattle.flt_rules.specs.Limits.{max_operations}

-- the store after a change
abbrev pub after_change : Store → Change → Store
after_change s change.Nothing = s
after_change s (change.Allocate owner) =
    record s { contexts = s.contexts ++ record { owner = owner; references = 1; value = 0; link = None } ∷ [] }
after_change s (change.AddReference x) = add_reference s x
after_change s (change.DropReference x) = drop_reference s x
after_change s (change.Write x value) = put_value s x value
after_change s (change.Link x f k None old) = put_link s x (record { filter = f; key = k })
after_change s (change.Link x f k (Some y) old) = put_link (after_unlink s y old) x (record { filter = f; key = k })
after_change s (change.Unlink x old) = after_unlink s x old
after_change s (change.TakeLock f l a access) = with_holder s f l (record { activation = a; access = access })
after_change s (change.GiveUpLock f l a) = without_holder s f l a
after_change s (change.Insert f v x) = with_queue s f (queue_at s f ++ record { visit = v; context = x } ∷ [])
after_change s (change.RemoveNext f) = with_queue s f (drop 1 (queue_at s f))
after_change s (change.RemoveOf f o v) = with_queue s f (other_entries s o (queue_at s f))
after_change s (change.Queue f r v x) =
    record s { items = s.items ++ Some (record { filter = f; routine = r; visit = v; context = x }) ∷ [] }
after_change s (change.Start i) = record s { items = set s.items i None }
after_change s (change.Settle v x way) = settled_by s v x way
after_change s (change.Arrive kind mode file) = with_arrival s (record { kind = kind; mode = mode; file = file })
after_change s (change.StartPre o f) = operating.in_pre_visit o f s
after_change s (change.Skip o f) = operating.past_filter o f s
after_change s (change.Lower o) = operating.lowered o s
after_change s (change.StartPost o f x) = operating.in_post_visit o (record { filter = f; context = x }) s
after_change s (change.StartDraining o f x) = operating.in_draining_visit o (record { filter = f; context = x }) s
after_change s (change.Cancel o) = operating.with_cancel o s
after_change s (change.Detach f) = with_presence s f Detaching
after_change s (change.Finish f) = with_presence s f Detached

-- no context has as many references as can be counted
abbrev pub AreCounted : Store → Type 0
AreCounted s = (x : ℕ) → (context_at s x).references < 2 ^ 64 - 1

-- a context can be linked there, over another or none
pub record CanBeLinked (s : Store) (x f : ℕ) (k : Key) (over : Option ℕ) : Type 0 where
  pub attached : is_attached (presence_at s f) ≡ true
  pub can : (is_some (context_at s x).link || is_freed (context_at s x)) ≡ false
  pub linked : linked_at s (record { filter = f; key = k }) ≡ over
  pub counted : AreCounted s

-- the first entry of the operation in the filter's queue is of this visit
abbrev pub IsFirstOf : Store → ℕ → ℕ → ℕ → Option Entry → Type 0
IsFirstOf s f o v None = ⊥
IsFirstOf s f o v (Some e) = e.visit ≡ v

-- whether a change can be made. Of other changes any can
abbrev pub IsPossible : Store → Change → Type 0
IsPossible s (change.AddReference x) = (context_at s x).references < 2 ^ 64 - 1
IsPossible s (change.Link x f k over old) = CanBeLinked s x f k over
IsPossible s (change.Insert f v x) = is_attached (presence_at s f) ≡ true
IsPossible s (change.RemoveOf f o v) = IsFirstOf s f o v (find (is_entry_of s o) (queue_at s f))
IsPossible s (change.Arrive kind mode file) = length s.arrivals < max_operations
IsPossible s (change.StartPre o f) = operating.filter_in (length s.presences) (route_at s o).position ≡ Some f
IsPossible s (change.Skip o f) = operating.filter_in (length s.presences) (route_at s o).position ≡ Some f
IsPossible s (change.Lower o) = operating.is_below (length s.presences) (route_at s o).position ≡ true
IsPossible s (change.StartPost o f x) =
    operating.frame_in (route_at s o).frames (route_at s o).position ≡ Some (record { filter = f; context = x })
IsPossible s (change.StartDraining o f x) = find (is_frame_of f) (route_at s o).frames ≡ Some (record { filter = f; context = x })
IsPossible s (change.Cancel o) = (is_done s o || (route_at s o).cancelled) ≡ false
IsPossible s (change.Detach f) = is_attached (presence_at s f) ≡ true
IsPossible s (change.Finish f) = is_attached (presence_at s f) ≡ false
IsPossible s _ = Unit {0}

-- any number of entries come to wait by it: an operation is cancelled, or a teardown begins. By any other change it is one at most
abbrev pub cancels_entries : Change → Bool
cancels_entries (change.Cancel o) = true
cancels_entries (change.Detach f) = true
cancels_entries _ = false
