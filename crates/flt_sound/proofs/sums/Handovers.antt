-- What the small lists of events count with which contexts change hands: a context that goes with a status, an entry or an item is
-- lost (`loses_context`), one that comes with an operation is gained (`gains_context`), one whose last reference goes is freed
-- (`freed_by_drop`). Each call, move and return is made of them. Here c, x are contexts and a, b activations.
use Rattle.std.proofs.Common.{◌≡◌, ℕ, Bool, true, false, [], ◌∷◌, Option, Some, None, arith}
use Rattle.std.specs.Prelude.{◌==◌, if◌then◌else◌}
use Rattle.flt_model.specs.declared.event.Event.TheVariants.{Free}
use Rattle.flt_model.specs.declared.event.Object.{Object}
use Rattle.flt_model.specs.declared.event.Object.TheVariants.{Context, Visit}
use Rattle.flt_model.specs.Effects.{loses_context, gains_context, freed_by_drop}
use Rattle.flt_model.specs.Trace.{gains, loses, frees, settles}
use Rattle.flt_model.specs.Violations.{in_some}
use Rattle.flt_model.specs.World.{Store, context_at}
use Rattle.flt_sound.proofs.sums.Counts.{counts, of_actor-same}

-- ---- a context that may be there is lost

-- the context itself is lost, and no other
pub lost_one : (a : ℕ) (c : Option ℕ) (x : ℕ) → loses (loses_context a c) a (Context x) ≡ in_some x c
lost_one a None x = simp counts
lost_one a (Some y) x = simp (counts, of_actor-same) (omega arith)

-- no visit is lost with it
pub lost_visit : (a : ℕ) (c : Option ℕ) (v : ℕ) → loses (loses_context a c) a (Visit v) ≡ 0
lost_visit a None v = simp counts
lost_visit a (Some y) v = simp (counts, of_actor-same)

-- nothing is gained when a context is lost
pub lost_gains : (a : ℕ) (c : Option ℕ) (b : ℕ) (o : Object) → gains (loses_context a c) b o ≡ 0
lost_gains a None b o = simp counts
lost_gains a (Some y) b o = simp counts

-- nothing is settled when a context is lost
pub lost_settles : (a : ℕ) (c : Option ℕ) (v : ℕ) → settles (loses_context a c) v ≡ 0
lost_settles a None v = simp counts
lost_settles a (Some y) v = simp counts

-- nothing is freed when a context is lost
pub lost_free : (a : ℕ) (c : Option ℕ) (x : ℕ) → frees (loses_context a c) x ≡ 0
lost_free a None x = simp counts
lost_free a (Some y) x = simp counts

-- ---- a context that may be there is gained

-- the context itself is gained, and no other
pub gained_one : (a : ℕ) (c : Option ℕ) (x : ℕ) → gains (gains_context a c) a (Context x) ≡ in_some x c
gained_one a None x = simp counts
gained_one a (Some y) x = simp (counts, of_actor-same) (omega arith)

-- no visit is gained with it
pub gained_visit : (a : ℕ) (c : Option ℕ) (v : ℕ) → gains (gains_context a c) a (Visit v) ≡ 0
gained_visit a None v = simp counts
gained_visit a (Some y) v = simp (counts, of_actor-same)

-- nothing is lost when a context is gained
pub gained_loses : (a : ℕ) (c : Option ℕ) (b : ℕ) (o : Object) → loses (gains_context a c) b o ≡ 0
gained_loses a None b o = simp counts
gained_loses a (Some y) b o = simp counts

-- nothing is settled when a context is gained
pub gained_settles : (a : ℕ) (c : Option ℕ) (v : ℕ) → settles (gains_context a c) v ≡ 0
gained_settles a None v = simp counts
gained_settles a (Some y) v = simp counts

-- nothing is freed when a context is gained
pub gained_free : (a : ℕ) (c : Option ℕ) (x : ℕ) → frees (gains_context a c) x ≡ 0
gained_free a None x = simp counts
gained_free a (Some y) x = simp counts

-- ---- a reference is dropped

-- a dropped reference is gained by nobody
pub gains-dropped : (s : Store) (x a : ℕ) (o : Object) → gains (freed_by_drop s x) a o ≡ 0
gains-dropped s x a o = by ((context_at s x).references == 1)
  where
    by : (b : Bool) → gains (if b then Free x ∷ [] else []) a o ≡ 0
    by true = simp counts
    by false = simp counts

-- the drop itself is no loss: the variable's loss stands before it
pub loses-dropped : (s : Store) (x a : ℕ) (o : Object) → loses (freed_by_drop s x) a o ≡ 0
loses-dropped s x a o = by ((context_at s x).references == 1)
  where
    by : (b : Bool) → loses (if b then Free x ∷ [] else []) a o ≡ 0
    by true = simp counts
    by false = simp counts

-- a drop settles nothing
pub settles-dropped : (s : Store) (x v : ℕ) → settles (freed_by_drop s x) v ≡ 0
settles-dropped s x v = by ((context_at s x).references == 1)
  where
    by : (b : Bool) → settles (if b then Free x ∷ [] else []) v ≡ 0
    by true = simp counts
    by false = simp counts
