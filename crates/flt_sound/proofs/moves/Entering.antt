-- A callback that starts stands at the first point of its text, in a situation that the state of its place's entry means. So the
-- certificate, which covers each entry, says of a new activation what the invariant asks.
-- p is the program, f a filter, c a callback, q its place; `gift` is the visit that it is given and `arg` the context, if any.
use Rattle.std.proofs.Common.{◌≡◌, ℕ, zero, suc, ◌<◌, Bool, true, false, List, [], ◌∷◌, ◌++◌, length}
use Rattle.std.proofs.Common.{replicate, Option, Some, None, ap, sym, subst, refl, ◌∙◌, arith}
use Rattle.std.specs.Prelude.{if◌then◌else◌, not, slice_get, ◌||◌}
use Rattle.std.proofs.lemmas.Option.{slice_get_within}
use Rattle.flt_rules.proofs.Operations.{same_is}
use Rattle.flt_rules.specs.Place.{fits_mode, is_always_irp}
use Rattle.flt_rules.specs.declared.place.Mode.{Mode}
use Rattle.flt_rules.specs.declared.place.Mode.TheVariants.{Irp, Fast}
use Rattle.flt_rules.specs.declared.place.Operation.{Operation}
use Rattle.flt_rules.specs.declared.place.Place.{Place}
use Rattle.flt_rules.specs.declared.place.Place.TheVariants as place
use Rattle.flt_tree.specs.Filter.{head_place}
use Rattle.flt_tree.specs.declared.filter.Callback.{Callback}
use Rattle.flt_tree.specs.declared.filter.Filter.{Filter}
use Rattle.flt_tree.specs.declared.filter.Head.{Head}
use Rattle.flt_tree.specs.declared.filter.Head.TheVariants as head
use Rattle.flt_tree.specs.declared.filter.Statement.{Statement}
use Rattle.flt_graph.specs.Graph.{callback_at}
use Rattle.flt_graph.specs.Graph as graph
use Rattle.flt_abs.specs.Entry.{entry}
use Rattle.flt_abs.specs.Sets.{either_mode, fast_alone, irp_alone}
use Rattle.flt_abs.specs.State.{Situation, Means, has_mode, has_draining}
use Rattle.flt_model.specs.Program.{filter_at, callbacks_at, no_filter, has_head, body_for, is_pre_of, is_post_of, is_canceled}
use Rattle.flt_model.specs.Variables.{starting}
use Rattle.flt_sound.specs.Soundness.{AreAccepted}
use Rattle.flt_sound.proofs.sums.Shadows.{Unset, given, Shadow, plain, situation}
use Rattle.flt_sound.proofs.points.Placed.{Laws, Placed}
use Rattle.flt_sound.proofs.calls.Removing.{given_value}

-- ---- the shadow of a new activation

-- its variables are unset, but for what the callback is given: `data` owns the visit, the last context variable the context
abbrev pub fresh : List Statement → Mode → Option ℕ → Option ℕ → Shadow
fresh body mode gift arg = record {
  rest = body;
  numbers = replicate 8 0;
  contexts = replicate 8 Unset ++ given arg ∷ [];
  operations = replicate 4 Unset ++ given gift ∷ [];
  locks = [];
  mode = mode;
  ended = false;
}

-- what the machine starts is that shadow, forgotten
pub plain-fresh : (body : List Statement) (mode : Mode) (gift arg : Option ℕ) → starting body gift arg ≡ plain (fresh body mode gift arg)
plain-fresh body mode gift arg = rw (given_value gift, given_value arg) refl

-- ---- what a callback is entered with

-- a callback of a place may be entered in a mode, draining or not, with this visit and this context
abbrev pub Enters : Place → Mode → Bool → Option ℕ → Option ℕ → Type 0
Enters (place.Pre kind) mode draining (Some v) None = (fits_mode kind mode ≡ true) × (draining ≡ false)
Enters (place.Post kind) mode draining (Some v) arg = fits_mode kind mode ≡ true
Enters place.Canceled mode draining (Some v) arg = (mode ≡ Irp) × (draining ≡ false)
Enters place.DeferredPre mode draining (Some v) arg = (mode ≡ Irp) × (draining ≡ false)
Enters place.DeferredPost mode draining (Some v) arg = (mode ≡ Irp) × (draining ≡ false)
Enters place.Generic mode draining None arg = (mode ≡ Irp) × (draining ≡ false)
Enters _ _ _ _ _ = ⊥

-- each operation comes as an I/O request packet
has_irp : (always : Bool) → has_mode (if always then irp_alone else either_mode irp_alone fast_alone) Irp ≡ true
has_irp true = refl
has_irp false = refl

-- one that isn't always one comes as fast I/O
has_fast : (always : Bool) → not always ≡ true → has_mode (if always then irp_alone else either_mode irp_alone fast_alone) Fast ≡ true
has_fast true h = absurd (cc)
has_fast false h = refl

-- the modes of a pre callback's entry state are those of its operations
pre_modes : (kind : Operation) (mode : Mode) → fits_mode kind mode ≡ true → has_mode (entry (place.Pre kind)).modes mode ≡ true
pre_modes kind Irp h = has_irp (is_always_irp kind)
pre_modes kind Fast h = has_fast (is_always_irp kind) h

-- the modes of a post callback's entry state are those of its operations
post_modes : (kind : Operation) (mode : Mode) → fits_mode kind mode ≡ true → has_mode (entry (place.Post kind)).modes mode ≡ true
post_modes kind Irp h = has_irp (is_always_irp kind)
post_modes kind Fast h = has_fast (is_always_irp kind) h

-- a post callback may be entered for draining and otherwise
post_draining : (kind : Operation) (draining : Bool) → has_draining (entry (place.Post kind)).draining draining ≡ true
post_draining kind true = refl
post_draining kind false = refl

-- the entry state means the situation of the new activation
pub enters : (q : Place) (body : List Statement) (mode : Mode) (draining : Bool) (gift arg : Option ℕ) → Enters q mode draining gift arg →
    Means (entry q) (situation draining (fresh body mode gift arg))
enters (place.Pre kind) body mode draining (Some v) None h =
    record { contexts = refl; operations = refl; mode = pre_modes kind mode h.0; draining = rw h.1 refl; locks = refl }
enters (place.Pre kind) body mode draining None None h = absurd h
enters (place.Pre kind) body mode draining None (Some x) h = absurd h
enters (place.Pre kind) body mode draining (Some v) (Some x) h = absurd h
enters (place.Post kind) body mode draining (Some v) None h =
    record { contexts = refl; operations = refl; mode = post_modes kind mode h; draining = post_draining kind draining; locks = refl }
enters (place.Post kind) body mode draining (Some v) (Some x) h =
    record { contexts = refl; operations = refl; mode = post_modes kind mode h; draining = post_draining kind draining; locks = refl }
enters (place.Post kind) body mode draining None arg h = absurd h
enters place.Canceled body mode draining (Some v) None h =
    record { contexts = refl; operations = refl; mode = rw h.0 refl; draining = rw h.1 refl; locks = refl }
enters place.Canceled body mode draining (Some v) (Some x) h =
    record { contexts = refl; operations = refl; mode = rw h.0 refl; draining = rw h.1 refl; locks = refl }
enters place.Canceled body mode draining None arg h = absurd h
enters place.DeferredPre body mode draining (Some v) None h =
    record { contexts = refl; operations = refl; mode = rw h.0 refl; draining = rw h.1 refl; locks = refl }
enters place.DeferredPre body mode draining (Some v) (Some x) h =
    record { contexts = refl; operations = refl; mode = rw h.0 refl; draining = rw h.1 refl; locks = refl }
enters place.DeferredPre body mode draining None arg h = absurd h
enters place.DeferredPost body mode draining (Some v) None h =
    record { contexts = refl; operations = refl; mode = rw h.0 refl; draining = rw h.1 refl; locks = refl }
enters place.DeferredPost body mode draining (Some v) (Some x) h =
    record { contexts = refl; operations = refl; mode = rw h.0 refl; draining = rw h.1 refl; locks = refl }
enters place.DeferredPost body mode draining None arg h = absurd h
enters place.Generic body mode draining None None h =
    record { contexts = refl; operations = refl; mode = rw h.0 refl; draining = rw h.1 refl; locks = refl }
enters place.Generic body mode draining None (Some x) h =
    record { contexts = refl; operations = refl; mode = rw h.0 refl; draining = rw h.1 refl; locks = refl }
enters place.Generic body mode draining (Some v) arg h = absurd h

-- ---- the callback that a move looks for

-- the first callback whose head passes a test
pub record Found (test : Head → Bool) (cs : List Callback) : Type 0 where
  pub number : ℕ
  pub callback : Callback
  pub there : slice_get cs number ≡ Some callback
  pub body_is : body_for test cs ≡ callback.body
  pub passes : test callback.head ≡ true

-- such a callback is found where there is one
pub found : (test : Head → Bool) (cs : List Callback) → has_head test cs ≡ true → Found test cs
found test [] h = absurd (cc)
found test (c ∷ cs) h = by (test c.head) refl h (found test cs)
  where
    by : (b : Bool) → test c.head ≡ b → (b || has_head test cs) ≡ true → (has_head test cs ≡ true → Found test cs) → Found test (c ∷ cs)
    by true e h later = record { number = 0; callback = c; there = refl; body_is = rw e refl; passes = e }
    by false e h later =
        let r = later h in
        record { number = suc r.number; callback = r.callback; there = r.there; body_is = rw e r.body_is; passes = r.passes }

-- a head of a pre callback of an operation is of that place
pub pre_place : (kind : Operation) (h : Head) → is_pre_of kind h ≡ true → place.Pre kind ≡ head_place h
pre_place kind (head.Pre own) e = ap place.Pre (sym (same_is own kind e))
pre_place kind (head.Post own) e = absurd (cc)
pre_place kind head.Canceled e = absurd (cc)
pre_place kind (head.DeferredPre name) e = absurd (cc)
pre_place kind (head.DeferredPost name) e = absurd (cc)
pre_place kind (head.Generic name) e = absurd (cc)

-- a head of a post callback of an operation is of that place
pub post_place : (kind : Operation) (h : Head) → is_post_of kind h ≡ true → place.Post kind ≡ head_place h
post_place kind (head.Pre own) e = absurd (cc)
post_place kind (head.Post own) e = ap place.Post (sym (same_is own kind e))
post_place kind head.Canceled e = absurd (cc)
post_place kind (head.DeferredPre name) e = absurd (cc)
post_place kind (head.DeferredPost name) e = absurd (cc)
post_place kind (head.Generic name) e = absurd (cc)

-- the head of the callback that takes canceled entries is of that place
pub canceled_place : (h : Head) → is_canceled h ≡ true → place.Canceled ≡ head_place h
canceled_place (head.Pre own) e = absurd (cc)
canceled_place (head.Post own) e = absurd (cc)
canceled_place head.Canceled e = refl
canceled_place (head.DeferredPre name) e = absurd (cc)
canceled_place (head.DeferredPost name) e = absurd (cc)
canceled_place (head.Generic name) e = absurd (cc)

-- ---- it stands at the first point

-- a filter of a number that is there
filter_get : (p : List Filter) (f : ℕ) → f < length p → slice_get p f ≡ Some (filter_at p f)
filter_get [] f h = absurd (omega arith)
filter_get (x ∷ p) zero h = refl
filter_get (x ∷ p) (suc f) h = filter_get p f (omega arith)

-- a filter with a callback is there
filter_within : (p : List Filter) (f n : ℕ) (c : Callback) → slice_get (callbacks_at p f) n ≡ Some c → f < length p
filter_within [] f n c e = absurd (cc)
filter_within (x ∷ p) zero n c e = omega arith
filter_within (x ∷ p) (suc f) n c e = let h = filter_within p f n c e in omega arith

-- a callback of an accepted filter is placed at its whole body, in each situation that its entry state means: the certificate
-- covers its entry
pub entered : (laws : Laws) (p : List Filter) → AreAccepted p → (f n : ℕ) (c : Callback) → slice_get (callbacks_at p f) n ≡ Some c →
    (q : Place) → q ≡ head_place c.head → (t : Situation) → Means (entry q) t → Placed p f q c.body t
entered laws p ok f n c e q same t means =
    let there = filter_within p f n c e in
    let x = ok f no_filter there in
    let number : n < length x.graph.callbacks =
    omega (arith, slice_get_within (callbacks_at p f) n c e, laws.count (filter_at p f) x.graph x.lowered) in
    let r = x.covers.entries n number in
    let at : graph.place_at x.graph n ≡ q = (laws.each (filter_at p f) x.graph n c x.lowered e).place ∙ sym same in
    record {
      laws = laws;
      filter = filter_at p f;
      callback = c;
      graph = x.graph;
      cert = x.cert;
      number = n;
      point = 0;
      state = r.0;
      there = filter_get p f there;
      well_formed = x.well_formed;
      lowered = x.lowered;
      covers = x.covers;
      declared = e;
      place_is = same;
      stands = laws.whole c.body;
      reached = r.1;
      means = (laws.below (entry (graph.place_at x.graph n)) r.0 r.2).situations t (subst (λ q. Means (entry q) t) (sym at) means);
      covered = λ g k low cov.
          let within : n < length g.callbacks =
          omega (arith, slice_get_within (callbacks_at p f) n c e, laws.count (filter_at p f) g low) in
          let entered = cov.entries n within in
          let place : graph.place_at g n ≡ q = (laws.each (filter_at p f) g n c low e).place ∙ sym same in
          record {
            state = entered.0;
            reached = entered.1;
            means = (laws.below (entry (graph.place_at g n)) entered.0 entered.2).situations t
                (subst (λ q. Means (entry q) t) (sym place) means);
          };
    }
