-- The events of a callback's end with a status, in their order: the status, the use of the context that goes with it, the visit
-- given back, the end. Each of their parts may be missing; what they do together is what the parts do, so that the end's balance
-- needs no cases.
-- a is the activation, e the end, x the context, v the visit; o is an object, y a context and u a visit that are counted.
use Rattle.std.proofs.Common.{◌≡◌, ℕ, ◌+◌, Bool, true, false, List, [], ◌∷◌, ◌++◌, Option}
use Rattle.std.proofs.Common.{Some, None, refl, arith, append_assoc, append-nil}
use Rattle.std.specs.Prelude.{if◌then◌else◌}
use Rattle.std.specs.List.{list_all}
use Rattle.std.proofs.lemmas.Bool.{and_from, and_parts}
use Rattle.flt_tree.specs.declared.filter.Filter.{Filter}
use Rattle.flt_tree.specs.declared.filter.Status.{Status}
use Rattle.flt_model.specs.declared.event.Answer.TheVariants.{Returned}
use Rattle.flt_model.specs.declared.event.Event.{Event}
use Rattle.flt_model.specs.declared.event.Event.TheVariants as event
use Rattle.flt_model.specs.declared.event.Object.{Object}
use Rattle.flt_model.specs.declared.event.Object.TheVariants.{Context, Visit}
use Rattle.flt_model.specs.Effects.{loses_context}
use Rattle.flt_model.specs.Runs.{Moment}
use Rattle.flt_model.specs.Trace.{gains, loses, settles, frees, one_if}
use Rattle.flt_model.specs.World.{Store}
use Rattle.flt_model.specs.Violations.{in_some, along, leaks_nothing, no_leak, is_legal, is_low_enough, is_disciplined, is_in_place}
use Rattle.flt_sound.proofs.sums.Turns.{Turned}
use Rattle.flt_sound.proofs.sums.Counts.{counts, gains-append, loses-append, settles-append, frees-append, of_actor-same, Has}
use Rattle.flt_sound.proofs.points.Events.{Events}
use Rattle.flt_sound.proofs.sums.Touching.{CleanBy, clean_append}
use Rattle.flt_sound.proofs.sums.Uses.{is_had, uses_held}

-- ---- lists of events, one behind the other

-- what events use or lose is held, where it is so of the first ones and then of the others
had_append : (t xs ys : List Event) → uses_held t xs ≡ true → uses_held (t ++ xs) ys ≡ true → uses_held t (xs ++ ys) ≡ true
had_append t [] ys h e = rw append-nil at e
had_append t (x ∷ xs) ys h e =
    let parts = and_parts (is_had t x) (along is_had (t ++ x ∷ []) xs) h in
    and_from _ _ parts.0 (had_append (t ++ x ∷ []) xs ys parts.1 (rw (append_assoc t (x ∷ []) xs) e))

-- no context leaks, where none does by the first events and then by the others
leak_append : (t xs ys : List Event) → no_leak t xs ≡ true → no_leak (t ++ xs) ys ≡ true → no_leak t (xs ++ ys) ≡ true
leak_append t [] ys h e = rw append-nil at e
leak_append t (x ∷ xs) ys h e =
    let parts = and_parts (leaks_nothing t x) (along leaks_nothing (t ++ x ∷ []) xs) h in
    and_from _ _ parts.0 (leak_append (t ++ x ∷ []) xs ys parts.1 (rw (append_assoc t (x ∷ []) xs) e))

-- a test that holds of each element holds of each of both lists
all_append : {X : Type 0} (f : X → Bool) (xs ys : List X) → list_all f xs ≡ true → list_all f ys ≡ true → list_all f (xs ++ ys) ≡ true
all_append f [] ys h e = e
all_append f (x ∷ xs) ys h e = let parts = and_parts (f x) (list_all f xs) h in and_from _ _ parts.0 (all_append f xs ys parts.1 e)

-- events of two lists break nothing, where the first break nothing and then the others
pub in_turn : {p : List Filter} {m : Moment} {a : ℕ} (t xs ys : List Event) → Events p m a t xs → Events p m a (t ++ xs) ys →
    Events p m a t (xs ++ ys)
in_turn {p} {m} {a} t xs ys e f = record {
  had = record { is = had_append t xs ys e.had.is f.had.is };
  leak = leak_append t xs ys e.leak f.leak;
  legal = all_append (is_legal p m.world m.trace) xs ys e.legal f.legal;
  low = all_append (is_low_enough p m.world m.trace) xs ys e.low f.low;
  disciplined = all_append (is_disciplined p m.world m.trace) xs ys e.disciplined f.disciplined;
  in_place = all_append (is_in_place p m.world m.trace) xs ys e.in_place f.in_place;
  no_gain = λ b ne o. simp counts (omega (arith, e.no_gain b ne o, f.no_gain b ne o));
  no_loss = λ b ne o. simp counts (omega (arith, e.no_loss b ne o, f.no_loss b ne o));
}

-- what an activation has it has after events that don't lose it
pub has_later : (t xs : List Event) (a : ℕ) (o : Object) → loses xs a o ≡ 0 → Has t a o → Has (t ++ xs) a o
has_later t xs a o l h = record { holds = simp counts (omega (arith, l, h.holds)) }

-- ---- an end with a status

-- what happens where a callback ends with a status about a visit
pub record Ending : Type 0 where
  pub status : Status
  -- the context that goes with the status, if one does
  pub context : Option ℕ
  -- the visit that the callback was given, and whether the activation holds it
  pub visit : ℕ
  pub held : Bool
  -- whether a frame takes the context over, and whether the visit is settled
  pub framed : Bool
  pub settled : Bool

-- a number where a thing is so, and 0 otherwise
abbrev pub when : Bool → ℕ → ℕ
when b n = if b then n else 0

module _ (a : ℕ) where
  -- the event of the status
  abbrev pub answer : Status → List Event
  answer st = event.Status a (Returned (Some st)) ∷ []

  -- the use of the context that goes with it
  abbrev pub used : Option ℕ → List Event
  used None = []
  used (Some x) = event.Use a (Context x) ∷ []

  -- the loss of the visit, where it is held
  abbrev pub lost_if : Bool → ℕ → List Event
  lost_if b v = if b then event.Lose a (Visit v) ∷ [] else []

  -- the loss of the context, where a frame takes it
  abbrev pub taken_if : Bool → Option ℕ → List Event
  taken_if b x = if b then loses_context a x else []

  -- the visit's settling, where it is settled
  abbrev pub settled_if : Bool → ℕ → List Event
  settled_if b v = if b then event.Settle v ∷ [] else []

  -- the events of giving the visit back, and the context with it
  abbrev pub given_back : Ending → List Event
  given_back e = (lost_if e.held e.visit ++ taken_if e.framed e.context) ++ settled_if e.settled e.visit

  -- all events of the end but the last
  abbrev pub front : Ending → List Event
  front e = answer e.status ++ (used e.context ++ given_back e)

  -- all events of the end
  abbrev pub ending : Ending → List Event
  ending e = front e ++ event.End a ∷ []

  -- a use loses nothing
  pub loses-used : (x : Option ℕ) (o : Object) → loses (used x) a o ≡ 0
  loses-used None o = simp counts
  loses-used (Some x) o = simp counts

  -- the loss of a visit loses no context
  pub loses-lost_if : (b : Bool) (v y : ℕ) → loses (lost_if b v) a (Context y) ≡ 0
  loses-lost_if true v y = simp (counts, of_actor-same)
  loses-lost_if false v y = simp counts

  -- ---- what they do, where P holds of each context that they touch

  module _ (P : ℕ → ℕ → Type 0) where
    -- events that gain and free nothing, and that lose contexts, lose visits and settle them this often
    pub record Does (es : List Event) (contexts visits settled : ℕ → ℕ) : Type 0 where
      -- nothing is gained, and each context and visit is lost this often
      pub gain : (o : Object) → gains es a o ≡ 0
      pub context : (y : ℕ) → loses es a (Context y) ≡ contexts y
      pub visit : (u : ℕ) → loses es a (Visit u) ≡ visits u
      -- each visit is settled this often, and no context is freed
      pub settle : (u : ℕ) → settles es u ≡ settled u
      pub free : (y : ℕ) → frees es y ≡ 0
      -- P holds of each context that is touched
      pub clean : CleanBy P es

    -- not once
    abbrev never : ℕ → ℕ
    never n = 0

    -- events one behind the other do what both do
    both : {xs ys : List Event} {c d v w s t : ℕ → ℕ} → Does xs c v s → Does ys d w t →
        Does (xs ++ ys) (λ y. c y + d y) (λ u. v u + w u) (λ u. s u + t u)
    both {xs} {ys} e f = record {
      gain = λ o. omega (arith, gains-append xs ys a o, e.gain o, f.gain o);
      context = λ y. omega (arith, loses-append xs ys a (Context y), e.context y, f.context y);
      visit = λ u. omega (arith, loses-append xs ys a (Visit u), e.visit u, f.visit u);
      settle = λ u. omega (arith, settles-append xs ys u, e.settle u, f.settle u);
      free = λ y. omega (arith, frees-append xs ys y, e.free y, f.free y);
      clean = clean_append P xs ys e.free e.clean f.clean;
    }

    answer_does : (st : Status) → Does (answer st) never never never
    answer_does st = record {
      gain = λ o. simp counts;
      context = λ y. simp counts;
      visit = λ u. simp counts;
      settle = λ u. simp counts;
      free = λ y. simp counts;
      clean = tt;
    }

    used_does : (x : Option ℕ) → ((y : ℕ) → x ≡ Some y → P a y) → Does (used x) never never never
    used_does None touch = record {
      gain = λ o. simp counts;
      context = λ y. simp counts;
      visit = λ u. simp counts;
      settle = λ u. simp counts;
      free = λ y. simp counts;
      clean = tt;
    }
    used_does (Some x) touch = record {
      gain = λ o. simp counts;
      context = λ y. simp counts;
      visit = λ u. simp counts;
      settle = λ u. simp counts;
      free = λ y. simp counts;
      clean = (touch x refl, tt);
    }

    lost_does : (b : Bool) (v : ℕ) → Does (lost_if b v) never (λ u. when b (one_if v u)) never
    lost_does true v = record {
      gain = λ o. simp counts;
      context = λ y. simp (counts, of_actor-same);
      visit = λ u. simp (counts, of_actor-same) (omega arith);
      settle = λ u. simp counts;
      free = λ y. simp counts;
      clean = tt;
    }
    lost_does false v = record {
      gain = λ o. simp counts;
      context = λ y. simp counts;
      visit = λ u. simp counts;
      settle = λ u. simp counts;
      free = λ y. simp counts;
      clean = tt;
    }

    taken_does : (b : Bool) (x : Option ℕ) → ((y : ℕ) → x ≡ Some y → P a y) → Does (taken_if b x) (λ y. when b (in_some y x)) never never
    taken_does true None touch = record {
      gain = λ o. simp counts;
      context = λ y. simp counts;
      visit = λ u. simp counts;
      settle = λ u. simp counts;
      free = λ y. simp counts;
      clean = tt;
    }
    taken_does true (Some x) touch = record {
      gain = λ o. simp counts;
      context = λ y. simp (counts, of_actor-same) (omega arith);
      visit = λ u. simp (counts, of_actor-same);
      settle = λ u. simp counts;
      free = λ y. simp counts;
      clean = (touch x refl, tt);
    }
    taken_does false x touch = record {
      gain = λ o. simp counts;
      context = λ y. simp counts;
      visit = λ u. simp counts;
      settle = λ u. simp counts;
      free = λ y. simp counts;
      clean = tt;
    }

    settled_does : (b : Bool) (v : ℕ) → Does (settled_if b v) never never (λ u. when b (one_if v u))
    settled_does true v = record {
      gain = λ o. simp counts;
      context = λ y. simp counts;
      visit = λ u. simp counts;
      settle = λ u. simp counts (omega arith);
      free = λ y. simp counts;
      clean = tt;
    }
    settled_does false v = record {
      gain = λ o. simp counts;
      context = λ y. simp counts;
      visit = λ u. simp counts;
      settle = λ u. simp counts;
      free = λ y. simp counts;
      clean = tt;
    }

    end_does : Does (event.End a ∷ []) never never never
    end_does = record {
      gain = λ o. simp counts;
      context = λ y. simp counts;
      visit = λ u. simp counts;
      settle = λ u. simp counts;
      free = λ y. simp counts;
      clean = tt;
    }

    -- the events but the last lose the visit where it is held and the context where a frame takes it, and settle the visit where it is
    pub front_does : (e : Ending) → ((y : ℕ) → e.context ≡ Some y → P a y) →
        Does (front e) (λ y. when e.framed (in_some y e.context)) (λ u. when e.held (one_if e.visit u))
        (λ u. when e.settled (one_if e.visit u))
    front_does e touch =
        let back = both (both (lost_does e.held e.visit) (taken_does e.framed e.context touch)) (settled_does e.settled e.visit) in
        let all = both (answer_does e.status) (both (used_does e.context touch) back) in
        record {
          gain = all.gain;
          context = λ y. omega (arith, all.context y);
          visit = λ u. omega (arith, all.visit u);
          settle = λ u. omega (arith, all.settle u);
          free = all.free;
          clean = all.clean;
        }

    -- so do all events of the end
    pub ending_does : (e : Ending) → ((y : ℕ) → e.context ≡ Some y → P a y) →
        Does (ending e) (λ y. when e.framed (in_some y e.context)) (λ u. when e.held (one_if e.visit u))
        (λ u. when e.settled (one_if e.visit u))
    ending_does e touch =
        let all = both (front_does e touch) end_does in
        record {
          gain = all.gain;
          context = λ y. omega (arith, all.context y);
          visit = λ u. omega (arith, all.visit u);
          settle = λ u. omega (arith, all.settle u);
          free = all.free;
          clean = all.clean;
        }

    -- the events about the visit alone do so of the visit
    pub visit_does : (e : Ending) → Does (lost_if e.held e.visit ++ settled_if e.settled e.visit) never
        (λ u. when e.held (one_if e.visit u)) (λ u. when e.settled (one_if e.visit u))
    visit_does e =
        let all = both (lost_does e.held e.visit) (settled_does e.settled e.visit) in
        record {
          gain = all.gain;
          context = λ y. omega (arith, all.context y);
          visit = λ u. omega (arith, all.visit u);
          settle = λ u. omega (arith, all.settle u);
          free = all.free;
          clean = all.clean;
        }

-- owners change by the whole end as they change by its events about the visit
pub ending_turned : (a : ℕ) (s new : Store) (e : Ending) →
    Turned a s new (lost_if a e.held e.visit ++ settled_if a e.settled e.visit) → Turned a s new (ending a e)
ending_turned a s new e t =
    let part = visit_does a (λ b x. Unit {0}) e in
    let whole = ending_does a (λ b x. Unit {0}) e (λ y h. tt) in
    record {
      turns = λ u. omega (arith, t.turns u, part.gain (Visit u), part.visit u, whole.gain (Visit u), whole.visit u);
      once = λ u. omega (arith, t.once u, part.settle u, whole.settle u);
      seats = t.seats;
      long = t.long;
    }
