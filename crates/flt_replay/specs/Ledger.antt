-- What the ledger's counts say of a moment's world and trace.
use Rattle.std.specs.Prelude.{◌≡◌, ◌≤◌, ℕ, ◌+◌, min, Bool, true, false, not, ◌&&◌, ◌||◌, ◌==◌, if◌then◌else◌, List}
use Rattle.std.specs.Prelude.{[], ◌∷◌, ◌++◌, length, sum_by, map, get_or, set, nat_lt, Option, Some, None}
use Rattle.flt_model.specs.declared.event.Event.{Event}
use Rattle.flt_model.specs.declared.event.Object.{Object}
use Rattle.flt_model.specs.declared.event.Object.TheVariants.{Context, Visit}
use Rattle.flt_model.specs.declared.verdict.Violation.{Violation}
use Rattle.flt_model.specs.declared.verdict.Violation.TheVariants.{V1, V2, V3}
use Rattle.flt_model.specs.Runs.{Moment}
use Rattle.flt_model.specs.Trace.{gains, loses, frees, settles, is_held}
use Rattle.flt_model.specs.Violations.{in_queue, in_item, is_fresh, leaks_nothing, is_first_settling}
use Rattle.flt_model.specs.Violations.{no_stale_use, no_leak, settled_once, one_owner}
use Rattle.flt_model.specs.World.{World, Store, Activation, is_settled}
use Rattle.flt_replay.specs.Apart.{is_apart, are_apart, ends_in}
use Rattle.flt_replay_records.specs.Counts.{count, occurs}
use Rattle.flt_replay.specs.Holdings.{times_held}
use Rattle.flt_replay.specs.Rows.{Counted, count_of}

-- the counts: by activation, how often it holds each context and each visit; how often each context was freed and each visit
-- settled; by activation, whether it goes on; and how many of those that go on hold each visit
pub record Tally : Type 0 where
  pub contexts : Counted
  pub visits : Counted
  pub freed : List ℕ
  pub settled : List ℕ
  pub running : List Bool
  pub holders : List ℕ

-- how often an activation holds an object
abbrev pub held : Tally → ℕ → Object → ℕ
held c a (Context x) = times_held c.contexts a x
held c a (Visit v) = count_of c.visits a v

-- what the counts say of a trace
pub record Tells (t : List Event) (c : Tally) : Type 0 where
  pub balance : (a : ℕ) (o : Object) → gains t a o ≡ loses t a o + held c a o
  pub frees_are : (x : ℕ) → frees t x ≡ count c.freed x
  pub settles_are : (v : ℕ) → settles t v ≡ count c.settled v

-- 1 where one goes on and has a count
unfoldable pub share : Bool → ℕ → ℕ
share on n = if on then min 1 n else 0

-- whether one that goes on has none
abbrev pub is_without : Bool → ℕ → Bool
is_without on n = n == 0 && on

-- how many of those that go on, from a number on, have a count
unfoldable pub running_with : List Bool → (ℕ → ℕ) → ℕ → ℕ
running_with [] f a = 0
running_with (on ∷ ons) f a = share on (f a) + running_with ons f (a + 1)

-- the holders of each visit are counted
pub record IsCounted (c : Tally) : Type 0 where
  pub by_visit : (v : ℕ) → count c.holders v ≡ running_with c.running (λ a. count_of c.visits a v) 0

-- by activation, whether it goes on
abbrev pub going : List Activation → List Bool
going acts = map (λ (act : Activation). not act.ended) acts

-- the counts say what the moment's trace and world say, where each visit has one owner, and its own mark where settled ones are
-- marked, and nobody who isn't there holds a visit
pub record Agrees (m : Moment) (c : Tally) : Type 0 where
  pub tells : Tells m.trace c
  pub counted : IsCounted c
  pub running_is : c.running ≡ going m.world.activations
  pub owned : one_owner m.world m.trace ≡ true
  pub paired : length m.world.store.settled ≡ length m.world.store.visits
  pub strangers : (a v : ℕ) → length m.world.activations ≤ a → is_held m.trace a (Visit v) ≡ false

-- ---- changes of the counts

-- what was listed is listed still
abbrev pub Keeps : List ℕ → List ℕ → Type 0
Keeps was now = (v : ℕ) → occurs v now ≡ 0 → occurs v was ≡ 0

-- what the activations hold of visits has changed, and the holders with it
pub record Turned (old new : Tally) : Type 0 where
  pub only : new ≡ record old { visits = new.visits; holders = new.holders }
  pub counted : IsCounted old → IsCounted new

-- the counts have taken in an event after a trace, and what it names is listed
pub record Noted (t : List Event) (e : Event) (old new : Tally) (was now : List ℕ) : Type 0 where
  pub tells : Tells (t ++ e ∷ []) new
  pub counted : IsCounted new
  pub same_running : new.running ≡ old.running
  pub listed : Keeps was now
  pub apart : (v : ℕ) → occurs v now ≡ 0 → is_apart v e ≡ true

-- the counts have taken in an event that touches nothing stale, and what was kept before it is kept with it
pub record Taken (w : World) (t : List Event) (e : Event) (old new : Tally) (was now : List ℕ) (tight once tight_too once_too : Bool) :
    Type 0 where
  pub fresh : is_fresh w t e ≡ true
  pub noted : Noted t e old new was now
  pub tight_is : tight_too ≡ (tight && leaks_nothing t e)
  pub once_is : once_too ≡ (once && is_first_settling t e)

-- an activation goes on no more, and the visits that it holds are listed
pub record Stopped (a : ℕ) (old new : Tally) (was now : List ℕ) : Type 0 where
  pub only : new ≡ record old { running = set old.running a false; holders = new.holders }
  pub counted : IsCounted old → IsCounted new
  pub listed : Keeps was now
  pub released : (v : ℕ) → occurs v now ≡ 0 → count_of old.visits a v ≡ 0

-- the same of those that end in some events
pub record Halted (es : List Event) (old new : Tally) (was now : List ℕ) : Type 0 where
  pub only : new ≡ record old { running = new.running; holders = new.holders }
  pub counted : IsCounted old → IsCounted new
  pub listed : Keeps was now
  pub released : (a v : ℕ) → ends_in a es ≡ true → occurs v now ≡ 0 → count_of old.visits a v ≡ 0
  pub size : length new.running ≡ length old.running
  pub flags : (a : ℕ) → get_or new.running a false ≡ (get_or old.running a false && not (ends_in a es))

-- one activation more is there, and goes on
pub record Started (old new : Tally) : Type 0 where
  pub only : new ≡ record old { running = old.running ++ true ∷ []; holders = new.holders }
  pub counted : IsCounted old → IsCounted new

-- so it is where there are more activations than were counted
pub record Joined (activations : ℕ) (old new : Tally) : Type 0 where
  pub only : new ≡ record old {
    running =
        (if nat_lt (length old.running) activations then old.running ++ true ∷ [] else old.running);
    holders = new.holders;
  }
  pub counted : IsCounted old → IsCounted new

-- the counts have taken in some events after a trace, of which none touches anything stale
pub record Judged (w : World) (t es : List Event) (old new : Tally) (was now : List ℕ) (tight once : Bool) : Type 0 where
  pub tells : Tells (t ++ es) new
  pub counted : IsCounted new
  pub same_running : new.running ≡ old.running
  pub listed : Keeps was now
  pub apart : (v : ℕ) → occurs v now ≡ 0 → are_apart v es ≡ true
  pub fresh : no_stale_use w t es ≡ true
  pub tight_is : tight ≡ no_leak t es
  pub once_is : once ≡ settled_once t es

-- the least of the first three violations that some events break after a trace
abbrev pub first_broken : World → List Event → List Event → Option Violation
first_broken w t es =
    if no_stale_use w t es then (if no_leak t es then (if settled_once t es then None else Some V3) else Some V2) else Some V1

-- ---- who has a visit

-- how many entries and items have a visit
abbrev pub waiting : Store → ℕ → ℕ
waiting s v = sum_by (in_queue v) s.queues + sum_by (in_item v) s.items

-- as the counts have it, an unsettled visit has one owner and a settled one none
abbrev pub owns : Tally → World → ℕ → Bool
owns c w v = count c.holders v + waiting w.store v == (if is_settled w.store v then 0 else 1)

-- the same of a number that may be no visit's
abbrev pub owns_any : Tally → World → ℕ → Bool
owns_any c w v = not (nat_lt v (length w.store.visits)) || owns c w v
