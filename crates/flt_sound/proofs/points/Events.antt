-- The events of one step of an activation, built one after another from the last to the first: none of them breaks V2, V5, V6,
-- V7 or V8, each
-- uses and loses what the activation has, and no other activation gains or loses. Each call, return and move names its events by these.
-- Here p is the program, m the moment before the step, a the activation, t the trace so far, e an event, es those after it.
use Rattle.std.proofs.Common.{◌≡◌, ◌≢◌, ℕ, ◌≤◌, Bool, true, false, List, [], ◌∷◌, ◌++◌, refl, arith}
use Rattle.std.specs.Prelude.{not, ◌==◌, if◌then◌else◌}
use Rattle.std.proofs.Math.ListN.{get_or}
use Rattle.std.proofs.lemmas.Bool.{and_from}
use Rattle.std.proofs.lemmas.List.Sums.{get_or-le-sum_by}
use Rattle.std.specs.List.{list_all}
use Rattle.flt_rules.specs.Held.{holds_lock, is_latest}
use Rattle.flt_rules.specs.declared.call.Call.{Call}
use Rattle.flt_rules.specs.declared.call.LockNumber.{LockNumber}
use Rattle.flt_tree.specs.declared.filter.Filter.{Filter}
use Rattle.flt_model.specs.declared.event.Answer.{Answer}
use Rattle.flt_model.specs.declared.event.Event.{Event}
use Rattle.flt_model.specs.declared.event.Event.TheVariants as event
use Rattle.flt_model.specs.declared.event.Object.{Object}
use Rattle.flt_model.specs.declared.event.Object.TheVariants.{Context, Visit}
use Rattle.flt_model.specs.Effects.{freed_by_drop}
use Rattle.flt_model.specs.Moves.{is_empty}
use Rattle.flt_model.specs.Runs.{Moment}
use Rattle.flt_model.specs.Statuses.{may_answer, may_pend}
use Rattle.flt_model.specs.Trace.{gain, lose, gains, loses, same_object}
use Rattle.flt_model.specs.Violations.{leaks_nothing, is_legal, is_low_enough, is_disciplined, is_in_place}
use Rattle.flt_model.specs.Violations.{is_let_go, no_leak, legal_statuses, levels_kept, legal_places}
use Rattle.flt_model.specs.World.{Store, activation_at, context_at}
use Rattle.flt_sound.proofs.sums.Counts.{held_where, counts, of_actor-other, Has, not_held_where, gains-nil, loses-nil}
use Rattle.flt_sound.proofs.sums.Shadows.{Slot, Unset, Owns, own, own_all, Shadow}
use Rattle.flt_sound.proofs.sums.Slots.{owned_there, owns_one}
use Rattle.flt_sound.proofs.sums.Uses.{is_had, AreHad, none_had, had_then}
use Rattle.flt_sound.proofs.points.Kept.{IsAt, contexts_at, visits_at}
use Rattle.flt_sound.proofs.points.Legal.{Cleared}

-- ---- an end leaks nothing

-- where an activation's gains and losses of contexts are even, its end leaks none
let_go : (t es : List Event) (a : ℕ) → ((x : ℕ) → gains t a (Context x) ≤ loses t a (Context x)) → list_all (is_let_go t a) es ≡ true
let_go t [] a h = refl
let_go t (event.Gain b (Context x) ∷ es) a h = rw (not_held_where t a (Context x) (h x)) (let_go t es a h)
let_go t (event.Gain b (Visit v) ∷ es) a h = let_go t es a h
let_go t (event.Call b k ∷ es) a h = let_go t es a h
let_go t (event.Status b k ∷ es) a h = let_go t es a h
let_go t (event.Lock b k ∷ es) a h = let_go t es a h
let_go t (event.Unlock b k ∷ es) a h = let_go t es a h
let_go t (event.Use b k ∷ es) a h = let_go t es a h
let_go t (event.Empty b ∷ es) a h = let_go t es a h
let_go t (event.Lose b k ∷ es) a h = let_go t es a h
let_go t (event.Free x ∷ es) a h = let_go t es a h
let_go t (event.Settle v ∷ es) a h = let_go t es a h
let_go t (event.End b ∷ es) a h = let_go t es a h

-- ---- the events of an activation, after a trace

-- events of an activation after a trace that break nothing
pub record Events (p : List Filter) (m : Moment) (a : ℕ) (t es : List Event) : Type 0 where
  -- V1: what they use or lose is held
  pub had : AreHad t es
  -- V2: an end leaks nothing
  pub leak : no_leak t es ≡ true
  -- V5: statuses are legal
  pub legal : legal_statuses p m.world m.trace es ≡ true
  -- V6: calls are low enough
  pub low : levels_kept p m.world m.trace es ≡ true
  -- V7: locks are disciplined
  pub disciplined : list_all (is_disciplined p m.world m.trace) es ≡ true
  -- V8: calls are in place
  pub in_place : legal_places p m.world m.trace es ≡ true
  -- no other activation gains
  pub no_gain : (b : ℕ) → a ≢ b → (o : Object) → gains es b o ≡ 0
  -- no other activation loses
  pub no_loss : (b : ℕ) → a ≢ b → (o : Object) → loses es b o ≡ 0

-- one event of an activation that breaks nothing after the trace
record Allowed (p : List Filter) (m : Moment) (a : ℕ) (t : List Event) (e : Event) : Type 0 where
  had : is_had t e ≡ true
  leak : leaks_nothing t e ≡ true
  legal : is_legal p m.world m.trace e ≡ true
  low : is_low_enough p m.world m.trace e ≡ true
  disciplined : is_disciplined p m.world m.trace e ≡ true
  in_place : is_in_place p m.world m.trace e ≡ true
  no_gain : (b : ℕ) → a ≢ b → (o : Object) → gain b o e ≡ 0
  no_loss : (b : ℕ) → a ≢ b → (o : Object) → lose b o e ≡ 0

module _ {p : List Filter} {m : Moment} {a : ℕ} where
  -- no events
  pub none : (t : List Event) → Events p m a t []
  none t = record {
    had = none_had t;
    leak = refl;
    legal = refl;
    low = refl;
    disciplined = refl;
    in_place = refl;
    no_gain = λ b ne o. gains-nil b o;
    no_loss = λ b ne o. loses-nil b o;
  }

  module _ {t es : List Event} where
    -- an allowed event, and such events after it
    first : (e : Event) → Allowed p m a t e → Events p m a (t ++ e ∷ []) es → Events p m a t (e ∷ es)
    first e f r = record {
      had = had_then e f.had r.had;
      leak = and_from _ _ f.leak r.leak;
      legal = and_from _ _ f.legal r.legal;
      low = and_from _ _ f.low r.low;
      disciplined = and_from _ _ f.disciplined r.disciplined;
      in_place = and_from _ _ f.in_place r.in_place;
      no_gain = λ b ne o. simp counts (omega (arith, f.no_gain b ne o, r.no_gain b ne o));
      no_loss = λ b ne o. simp counts (omega (arith, f.no_loss b ne o, r.no_loss b ne o));
    }

    -- it uses what it has
    pub uses : {o : Object} → Has t a o → Events p m a (t ++ event.Use a o ∷ []) es → Events p m a t (event.Use a o ∷ es)
    uses {o} h =
        first (event.Use a o) (record {
          had = held_where t a o h.holds;
          leak = refl;
          legal = refl;
          low = refl;
          disciplined = refl;
          in_place = refl;
          no_gain = λ b ne q. refl;
          no_loss = λ b ne q. refl;
        })

    -- it loses what it has
    pub lost : {o : Object} → Has t a o → Events p m a (t ++ event.Lose a o ∷ []) es → Events p m a t (event.Lose a o ∷ es)
    lost {o} h =
        first (event.Lose a o) (record {
          had = held_where t a o h.holds;
          leak = refl;
          legal = refl;
          low = refl;
          disciplined = refl;
          in_place = refl;
          no_gain = λ b ne q. refl;
          no_loss = λ b ne q. of_actor-other a b (same_object o q) ne;
        })

    -- it gains an object
    pub gained : (o : Object) → Events p m a (t ++ event.Gain a o ∷ []) es → Events p m a t (event.Gain a o ∷ es)
    gained o =
        first (event.Gain a o) (record {
          had = refl;
          leak = refl;
          legal = refl;
          low = refl;
          disciplined = refl;
          in_place = refl;
          no_gain = λ b ne q. of_actor-other a b (same_object o q) ne;
          no_loss = λ b ne q. refl;
        })

    -- a context is freed
    pub freed : (x : ℕ) → Events p m a (t ++ event.Free x ∷ []) es → Events p m a t (event.Free x ∷ es)
    freed x =
        first (event.Free x) (record {
          had = refl;
          leak = refl;
          legal = refl;
          low = refl;
          disciplined = refl;
          in_place = refl;
          no_gain = λ b ne q. refl;
          no_loss = λ b ne q. refl;
        })

    -- a visit is settled
    pub settled : (v : ℕ) → Events p m a (t ++ event.Settle v ∷ []) es → Events p m a t (event.Settle v ∷ es)
    settled v =
        first (event.Settle v) (record {
          had = refl;
          leak = refl;
          legal = refl;
          low = refl;
          disciplined = refl;
          in_place = refl;
          no_gain = λ b ne q. refl;
          no_loss = λ b ne q. refl;
        })

    -- it makes a call, at a level and place that allow it, and pends nothing that it may not
    pub called : (k : Call) → Cleared p m a k → may_pend p m.world m.trace a k ≡ true → Events p m a (t ++ event.Call a k ∷ []) es →
        Events p m a t (event.Call a k ∷ es)
    called k c h =
        first (event.Call a k) (record {
          had = refl;
          leak = refl;
          legal = h;
          low = c.low;
          disciplined = refl;
          in_place = c.in_place;
          no_gain = λ b ne q. refl;
          no_loss = λ b ne q. refl;
        })

    -- it gives a status that it may give
    pub answered : (x : Answer) → may_answer p m.world m.trace a x ≡ true → Events p m a (t ++ event.Status a x ∷ []) es →
        Events p m a t (event.Status a x ∷ es)
    answered x h =
        first (event.Status a x) (record {
          had = refl;
          leak = refl;
          legal = h;
          low = refl;
          disciplined = refl;
          in_place = refl;
          no_gain = λ b ne q. refl;
          no_loss = λ b ne q. refl;
        })

    -- it acquires a lock that it doesn't hold
    pub locked : (l : LockNumber) → not (holds_lock l (activation_at m.world a).locks) ≡ true → Events p m a (t ++ event.Lock a l ∷ []) es →
        Events p m a t (event.Lock a l ∷ es)
    locked l h =
        first (event.Lock a l) (record {
          had = refl;
          leak = refl;
          legal = refl;
          low = refl;
          disciplined = h;
          in_place = refl;
          no_gain = λ b ne q. refl;
          no_loss = λ b ne q. refl;
        })

    -- it releases its latest lock
    pub unlocked : (l : LockNumber) → is_latest l (activation_at m.world a).locks ≡ true → Events p m a (t ++ event.Unlock a l ∷ []) es →
        Events p m a t (event.Unlock a l ∷ es)
    unlocked l h =
        first (event.Unlock a l) (record {
          had = refl;
          leak = refl;
          legal = refl;
          low = refl;
          disciplined = h;
          in_place = refl;
          no_gain = λ b ne q. refl;
          no_loss = λ b ne q. refl;
        })

    -- it ends, without locks and contexts
    pub ended : is_empty (activation_at m.world a).locks ≡ true → ((x : ℕ) → gains t a (Context x) ≤ loses t a (Context x)) →
        Events p m a (t ++ event.End a ∷ []) es → Events p m a t (event.End a ∷ es)
    ended h none_left =
        first (event.End a) (record {
          had = refl;
          leak = let_go t t a none_left;
          legal = refl;
          low = refl;
          disciplined = h;
          in_place = refl;
          no_gain = λ b ne q. refl;
          no_loss = λ b ne q. refl;
        })

-- a reference is dropped, and the context freed with the last
pub dropped : {p : List Filter} {m : Moment} {a : ℕ} (t : List Event) (s : Store) (x : ℕ) → Events p m a t (freed_by_drop s x)
dropped t s x = by ((context_at s x).references == 1)
  where
    by : {p : List Filter} {m : Moment} {a : ℕ} (b : Bool) → Events p m a t (if b then event.Free x ∷ [] else [])
    by true = freed x (none (t ++ event.Free x ∷ []))
    by false = none t

-- ---- what a variable owns the activation has

-- a variable that owns an object is one of those that own it
le_own_all : (x : ℕ) (slots : List Slot) (i : ℕ) → get_or slots i Unset ≡ Owns x → 1 ≤ own_all x slots
unfolding own_all
le_own_all x slots i e = omega (arith, owns_one slots i x e, get_or-le-sum_by (own x) slots i Unset (owned_there slots i x e))

module _ {p : List Filter} {m : Moment} {a : ℕ} {s : Shadow} (at : IsAt p m a s) where
  -- a context that one of its variables owns
  pub has_context : (i x : ℕ) → get_or s.contexts i Unset ≡ Owns x → Has m.trace a (Context x)
  has_context i x e = record { holds = omega (arith, contexts_at at x, le_own_all x s.contexts i e) }

  -- a visit that one of its variables owns
  pub has_visit : (i v : ℕ) → get_or s.operations i Unset ≡ Owns v → Has m.trace a (Visit v)
  has_visit i v e = record { holds = omega (arith, visits_at at v, le_own_all v s.operations i e) }
