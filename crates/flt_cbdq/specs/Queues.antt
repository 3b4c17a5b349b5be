-- What a contract sees of `Queues`. Source: the driver kit's pages on cancel-safe queues (FltCbdqInsertIo, FltCbdqRemoveNextIo,
-- FltCbdqDisable); that a filter has one queue, first in first out, is this project's own rule.
use Rattle.std.specs.Prelude.{ℕ, Bool, true, ◌==◌, List, [], ◌∷◌, ◌++◌, get_or, set, Option, Some, None}
use Rattle.std.specs.List.{before_first, after_first, list_any}
use Rattle.flt_cbdq.specs.declared.entry.Entry.{Entry}
use Rattle.flt_cbdq.specs.declared.fault.InsertFault.{InsertFault}
use Rattle.flt_cbdq.specs.declared.fault.InsertFault.TheVariants.{Disabled, OutOfMemory}

-- by filter, the entries of its queue, the front one first, and whether the queue is disabled
pub record Queueing : Type 0 where
  pub queues : List (List Entry)
  pub disabled : List Bool

-- the queue of a filter; a filter that isn't there has no entry
abbrev pub queue_of : Queueing → ℕ → List Entry
queue_of q filter = get_or q.queues filter []

-- whether it takes no more entries; that of a filter that isn't there takes none
abbrev pub is_disabled : Queueing → ℕ → Bool
is_disabled q filter = get_or q.disabled filter true

-- the filter's queue is this from now on
abbrev pub with_queue : Queueing → ℕ → List Entry → Queueing
with_queue q filter entries = record q { queues = set q.queues filter entries }

-- whether an entry is of the visit
abbrev pub has_visit : ℕ → Entry → Bool
has_visit visit e = e.visit == visit

-- whether it is of one of some visits
abbrev pub is_of : List ℕ → Entry → Bool
is_of visits e = list_any (λ visit. visit == e.visit) visits

-- the front entry, if there is one
abbrev pub front_of : List Entry → Option Entry
front_of [] = None
front_of (e ∷ es) = Some e

-- the entries without the first that passes
abbrev pub without_first : (Entry → Bool) → List Entry → List Entry
without_first test es = before_first test es ++ after_first test es

-- the entry that comes back
abbrev pub entry_in : InsertFault → Entry
entry_in (Disabled e) = e
entry_in (OutOfMemory e) = e
