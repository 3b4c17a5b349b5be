-- What the proofs of the calls share: when an effect is good behind the events that open its call, and the parts of a step that
-- change nothing. What is proved of a call is then what its own effect does to variables, visits and references.
-- p is the program, m the moment, a the activation that calls, s its shadow; c and d are variables, x a context, v a visit.
use Rattle.std.proofs.Common.{◌≡◌, ℕ, Bool, true, false, List, [], ◌++◌, Option, None, subst, refl, arith}
use Rattle.std.specs.Prelude.{not, ◌||◌}
use Rattle.flt_rules.specs.Columns.{has_place}
use Rattle.flt_rules.specs.declared.columns.Places.{Places}
use Rattle.flt_rules.specs.declared.place.Mode.{Mode}
use Rattle.flt_rules.specs.declared.place.Place.{Place}
use Rattle.flt_tree.specs.Variable.{context_place, operation_place}
use Rattle.flt_tree.specs.declared.filter.Filter.{Filter}
use Rattle.flt_tree.specs.declared.filter.Statement.{Statement}
use Rattle.flt_tree.specs.declared.variable.ContextVariable.{ContextVariable}
use Rattle.flt_tree.specs.declared.variable.OperationVariable.{OperationVariable}
use Rattle.flt_tree.specs.declared.variable.OperationVariable.TheVariants.{Data}
use Rattle.flt_model.specs.declared.event.Event.{Event}
use Rattle.flt_model.specs.declared.event.Object.TheVariants.{Context, Visit}
use Rattle.flt_model.specs.Effects.{Step, unchanged}
use Rattle.flt_model.specs.Runs.{Moment}
use Rattle.flt_model.specs.World.{actor_at}
use Rattle.flt_sound.proofs.sums.Counts.{counts, Has}
use Rattle.flt_sound.proofs.sums.Ledger.{Ledger}
use Rattle.flt_sound.proofs.sums.Shadows.{Shadow, Unset, value_of, context_slot, operation_slot}
use Rattle.flt_sound.proofs.sums.Slots.{IsOwned}
use Rattle.flt_sound.proofs.sums.Turns.{Turned}
use Rattle.flt_sound.proofs.points.Events.{none, has_context, has_visit}
use Rattle.flt_sound.proofs.points.Kept.{Good, IsAt}
use Rattle.flt_sound.proofs.points.Legal.{spot, place_same}
use Rattle.flt_sound.proofs.points.Rows.{PlacedAt, before, was, setting}
use Rattle.flt_sound.proofs.points.Opened.{Opened, given_good}
use Rattle.flt_sound.proofs.points.Stepping.{CalmStore, same_calm, calm_of, quiet_ledger}
use Rattle.flt_sound.proofs.points.Stored.{Given}
use Rattle.std.proofs.lemmas.Bool.{or_parts, not-false}

module _ {p : List Filter} {m : Moment} {a : ℕ} {s : Shadow} (at : IsAt p m a s) where
  -- an effect is good behind the events that open its call
  abbrev pub GoodBehind : List Event → Step → Type 0
  GoodBehind pre effect = Good p m (record { world = effect.world; events = pre ++ effect.events })

  -- ---- the activation

  -- the filter of the activation
  abbrev pub own_filter : ℕ
  own_filter = (actor_at m.world a).filter

  -- the place of its callback
  abbrev pub own_place : Place
  own_place = (actor_at m.world a).place

  -- what a callback of the filter at a place may have been given
  abbrev pub GivenAt : Mode → Place → Option ℕ → Type 0
  GivenAt mode q x = Given m.world.store.visits m.world.store.arrivals own_filter mode q x

  -- what the callback was given, as its variable names it
  pub given_as : (x : Option ℕ) → value_of (operation_slot s Data) ≡ x → GivenAt s.mode own_place x
  given_as x e = subst (λ x. GivenAt s.mode own_place x) e (was at).given

  -- where a call keeps to its places, the callback's place is one of them
  pub in_place : (places : Places) (b : Bool) → (not (has_place places (setting at).place) || b) ≡ false → has_place places own_place ≡ true
  in_place places b e = subst (λ q. has_place places q ≡ true) (place_same (spot at)) (not-false _ (or_parts _ _ e).0)

  -- the activation has the context that its variable owns
  pub has_owned_context : (c : ContextVariable) (x : IsOwned (context_slot s c)) → Has m.trace a (Context x.object)
  has_owned_context c x = has_context at (context_place c) x.object x.is

  -- it has the operation that its variable owns
  pub has_owned_visit : (d : OperationVariable) (v : IsOwned (operation_slot s d)) → Has m.trace a (Visit v.object)
  has_owned_visit d v = has_visit at (operation_place d) v.object v.is

  -- ---- what changes nothing

  -- the store as it is changes nothing that the invariants look at
  pub same_store : CalmStore at m.world.store
  same_store = same_calm at m.world.store refl refl refl refl refl refl

  -- where nothing happens no visit changes its owner
  pub no_turn : Turned a m.world.store m.world.store []
  no_turn = calm_of at same_store [] (λ v. simp counts) (λ v. simp counts)

  -- where nothing happens no reference changes
  pub no_ledger : Ledger a m.world.store m.world.store []
  no_ledger = quiet_ledger at [] (λ y. simp counts) (λ y. simp counts)

  -- a call after which the activation only goes on is good
  pub unchanged_good : (pre : List Event) (list : List Statement) → Opened at pre → PlacedAt at list (before at) →
      GoodBehind pre (unchanged m.world a list)
  unchanged_good pre list o placed =
      given_good at pre [] None Unset list m.world.store o (λ t. none t) same_store.change no_turn no_ledger tt
      (λ q. simp counts) (λ u. simp counts) (λ y. simp counts (omega arith)) placed
